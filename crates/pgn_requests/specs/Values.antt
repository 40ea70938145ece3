-- Which values a setting can have, and what they become.
use Rattle.std.specs.Prelude.{ℕ, Bool, not, cond, ◌||◌, ◌&&◌, nat_le, List, [], ◌∷◌, map, filter, length, bytes_eq, codes, Option, None, Some}
use Rattle.std.specs.Char.{is_ascii_alphanumeric}
use Rattle.std.specs.List.{list_any}
use Rattle.std.specs.Str.{str_eq_ignore_ascii_case, str_to_ascii_lowercase}
use Rattle.pgn_base.specs.declared.limits.TheConstants.{NAME_BYTES_MAX}
use Rattle.pgn_language.specs.Tokens.{is_blank}
use Rattle.pgn_language.specs.Grammar.{cut}
use Rattle.pgn_requests.specs.declared.setting.Setting.{Setting}
use Rattle.pgn_requests.specs.declared.setting.Setting.TheVariants.{ApplicationName, ClientEncoding, DateStyle, DefaultTransactionReadOnly, InHotStandby, IntegerDatetimes, IntervalStyle, IsSuperuser, ServerEncoding, ServerVersion, SessionAuthorization, StandardConformingStrings, TimeZone, ClientMinMessages, ExtraFloatDigits, TransactionIsolation, TransactionReadOnly}
use Rattle.pgn_requests.specs.declared.short_text.TheConstants.{SHORT_BYTES_MAX}
use Rattle.pgn_requests.specs.declared.verdict.Verdict.{Verdict}
use Rattle.pgn_requests.specs.declared.verdict.Verdict.TheVariants.{Becomes, Invalid, Unchangeable, Unsupported}

-- the word is the value, without regard to ASCII case
abbrev pub is_said : List ℕ → List ℕ → Bool
is_said word value = str_eq_ignore_ascii_case word value

-- the byte as it is shown: what is no printable ASCII is a `?`
abbrev pub shown_byte : ℕ → ℕ
shown_byte b = cond (nat_le 32 b && nat_le b 126) b 63

-- the value's letters and digits in lower case
abbrev pub letters_of : List ℕ → List ℕ
letters_of value = str_to_ascii_lowercase (filter is_ascii_alphanumeric value)

-- the letters are one of these names
abbrev pub is_among : List (List ℕ) → List ℕ → Bool
is_among names letters = list_any (λ name. bytes_eq name letters) names

-- the letters of the encodings that PostgreSQL knows beside UTF-8 and ASCII: by a number of ISO, as Latin, of Windows in two ways, and others
abbrev pub iso_encodings : List (List ℕ)
iso_encodings =
    codes "iso88591" ∷ codes "iso88592" ∷ codes "iso88593" ∷ codes "iso88594" ∷ codes "iso88595" ∷ codes "iso88596" ∷
    codes "iso88597" ∷ codes "iso88598" ∷ codes "iso88599" ∷ codes "iso885910" ∷ codes "iso885913" ∷ codes "iso885914" ∷
    codes "iso885915" ∷ codes "iso885916" ∷ []

abbrev pub latin_encodings : List (List ℕ)
latin_encodings =
    codes "latin1" ∷ codes "latin2" ∷ codes "latin3" ∷ codes "latin4" ∷ codes "latin5" ∷ codes "latin6" ∷ codes "latin7" ∷
    codes "latin8" ∷ codes "latin9" ∷ codes "latin10" ∷ []

abbrev pub win_encodings : List (List ℕ)
win_encodings =
    codes "win1250" ∷ codes "win1251" ∷ codes "win1252" ∷ codes "win1253" ∷ codes "win1254" ∷ codes "win1255" ∷ codes "win1256" ∷
    codes "win1257" ∷ codes "win1258" ∷ codes "win866" ∷ codes "win874" ∷ codes "win932" ∷ codes "win936" ∷ codes "win949" ∷
    codes "win950" ∷ []

abbrev pub windows_encodings : List (List ℕ)
windows_encodings =
    codes "windows1250" ∷ codes "windows1251" ∷ codes "windows1252" ∷ codes "windows1253" ∷ codes "windows1254" ∷ codes "windows1255" ∷
    codes "windows1256" ∷ codes "windows1257" ∷ codes "windows1258" ∷ codes "windows866" ∷ codes "windows874" ∷ codes "windows932" ∷
    codes "windows936" ∷ codes "windows949" ∷ codes "windows950" ∷ []

abbrev pub other_encodings : List (List ℕ)
other_encodings =
    codes "abc" ∷ codes "alt" ∷ codes "big5" ∷ codes "euccn" ∷ codes "eucjis2004" ∷ codes "eucjp" ∷ codes "euckr" ∷ codes "euctw" ∷
    codes "gb18030" ∷ codes "gbk" ∷ codes "johab" ∷ codes "koi8" ∷ []

abbrev pub more_encodings : List (List ℕ)
more_encodings =
    codes "koi8r" ∷ codes "koi8u" ∷ codes "mskanji" ∷ codes "muleinternal" ∷ codes "shiftjis" ∷ codes "shiftjis2004" ∷ codes "sjis" ∷
    codes "tcvn" ∷ codes "tcvn5712" ∷ codes "uhc" ∷ codes "vscii" ∷ codes "win" ∷ []

-- PostgreSQL knows an encoding by these letters
abbrev pub is_encoding : List ℕ → Bool
is_encoding letters = is_among iso_encodings letters || is_among latin_encodings letters || is_among win_encodings letters || is_among windows_encodings letters
    || is_among other_encodings letters || is_among more_encodings letters

-- an encoding by its letters
abbrev pub encoding : List ℕ → Verdict
encoding letters =
    cond (bytes_eq (codes "utf8") letters || bytes_eq (codes "unicode") letters) (Becomes (codes "UTF8"))
    (cond (bytes_eq (codes "sqlascii") letters) (Becomes (codes "SQL_ASCII")) (cond (is_encoding letters) Unsupported Invalid))

-- the value in lower case without blanks
abbrev pub closed_up : List ℕ → List ℕ
closed_up value = str_to_ascii_lowercase (filter (λ b. not (is_blank b)) value)

-- the older styles of dates
abbrev pub older_style : List ℕ → Option (List ℕ)
older_style words =
    cond (bytes_eq (codes "postgres") words || bytes_eq (codes "postgres,mdy") words) (Some (codes "Postgres, MDY"))
    (cond (bytes_eq (codes "postgres,dmy") words) (Some (codes "Postgres, DMY"))
    (cond (bytes_eq (codes "postgres,ymd") words) (Some (codes "Postgres, YMD"))
    (cond (bytes_eq (codes "german") words || bytes_eq (codes "german,dmy") words) (Some (codes "German, DMY"))
    (cond (bytes_eq (codes "german,mdy") words) (Some (codes "German, MDY"))
    (cond (bytes_eq (codes "german,ymd") words) (Some (codes "German, YMD")) None)))))

-- a style of dates by its words: how a date is written, the order of its parts, or both with a comma
abbrev pub date_style : List ℕ → Option (List ℕ)
date_style words =
    cond (bytes_eq (codes "iso") words || bytes_eq (codes "mdy") words || bytes_eq (codes "iso,mdy") words) (Some (codes "ISO, MDY"))
    (cond (bytes_eq (codes "dmy") words || bytes_eq (codes "iso,dmy") words) (Some (codes "ISO, DMY"))
    (cond (bytes_eq (codes "ymd") words || bytes_eq (codes "iso,ymd") words) (Some (codes "ISO, YMD"))
    (cond (bytes_eq (codes "sql") words || bytes_eq (codes "sql,mdy") words) (Some (codes "SQL, MDY"))
    (cond (bytes_eq (codes "sql,dmy") words) (Some (codes "SQL, DMY"))
    (cond (bytes_eq (codes "sql,ymd") words) (Some (codes "SQL, YMD")) (older_style words))))))

-- on, or a beginning of true or of yes, or 1
abbrev pub says_on : List ℕ → Bool
says_on value = is_said (codes "on") value || is_said (codes "true") value || is_said (codes "tru") value || is_said (codes "tr") value || is_said (codes "t") value
    || is_said (codes "yes") value || is_said (codes "ye") value || is_said (codes "y") value || is_said (codes "1") value

-- off, or a beginning of it that is not one of on, or a beginning of false or of no, or 0
abbrev pub says_off : List ℕ → Bool
says_off value = is_said (codes "off") value || is_said (codes "of") value || is_said (codes "false") value || is_said (codes "fals") value || is_said (codes "fal") value
    || is_said (codes "fa") value || is_said (codes "f") value || is_said (codes "no") value || is_said (codes "n") value || is_said (codes "0") value

-- on or off
abbrev pub switch : List ℕ → Option (List ℕ)
switch value = cond (says_on value) (Some (codes "on")) (cond (says_off value) (Some (codes "off")) None)

-- on, since the service knows no other literals
abbrev pub only_on : List ℕ → Verdict
only_on value = cond (says_on value) (Becomes (codes "on")) (cond (says_off value) Unsupported Invalid)

-- how intervals are written
abbrev pub interval_style : List ℕ → Option (List ℕ)
interval_style value =
    cond (is_said (codes "postgres") value) (Some (codes "postgres"))
    (cond (is_said (codes "postgres_verbose") value) (Some (codes "postgres_verbose"))
    (cond (is_said (codes "sql_standard") value) (Some (codes "sql_standard"))
    (cond (is_said (codes "iso_8601") value) (Some (codes "iso_8601")) None)))

-- which messages a client is told
abbrev pub message_level : List ℕ → Option (List ℕ)
message_level value =
    cond (is_said (codes "debug5") value) (Some (codes "debug5"))
    (cond (is_said (codes "debug4") value) (Some (codes "debug4"))
    (cond (is_said (codes "debug3") value) (Some (codes "debug3"))
    (cond (is_said (codes "debug2") value || is_said (codes "debug") value) (Some (codes "debug2"))
    (cond (is_said (codes "debug1") value) (Some (codes "debug1"))
    (cond (is_said (codes "log") value) (Some (codes "log"))
    (cond (is_said (codes "notice") value) (Some (codes "notice"))
    (cond (is_said (codes "warning") value) (Some (codes "warning"))
    (cond (is_said (codes "error") value) (Some (codes "error")) None))))))))

-- how many digits of a float are shown beyond what is usual: -15 to 3
abbrev pub float_digits : List ℕ → Option (List ℕ)
float_digits value =
    cond (bytes_eq (codes "3") value) (Some (codes "3"))
    (cond (bytes_eq (codes "2") value) (Some (codes "2"))
    (cond (bytes_eq (codes "1") value) (Some (codes "1"))
    (cond (bytes_eq (codes "0") value) (Some (codes "0"))
    (cond (bytes_eq (codes "-1") value) (Some (codes "-1"))
    (cond (bytes_eq (codes "-2") value) (Some (codes "-2"))
    (cond (bytes_eq (codes "-3") value) (Some (codes "-3"))
    (cond (bytes_eq (codes "-4") value) (Some (codes "-4"))
    (cond (bytes_eq (codes "-5") value) (Some (codes "-5"))
    (cond (bytes_eq (codes "-6") value) (Some (codes "-6"))
    (cond (bytes_eq (codes "-7") value) (Some (codes "-7"))
    (cond (bytes_eq (codes "-8") value) (Some (codes "-8"))
    (cond (bytes_eq (codes "-9") value) (Some (codes "-9"))
    (cond (bytes_eq (codes "-10") value) (Some (codes "-10"))
    (cond (bytes_eq (codes "-11") value) (Some (codes "-11"))
    (cond (bytes_eq (codes "-12") value) (Some (codes "-12"))
    (cond (bytes_eq (codes "-13") value) (Some (codes "-13"))
    (cond (bytes_eq (codes "-14") value) (Some (codes "-14"))
    (cond (bytes_eq (codes "-15") value) (Some (codes "-15")) None))))))))))))))))))

-- how transactions are kept apart
abbrev pub isolation : List ℕ → Option (List ℕ)
isolation value =
    cond (is_said (codes "serializable") value) (Some (codes "serializable"))
    (cond (is_said (codes "repeatable read") value) (Some (codes "repeatable read"))
    (cond (is_said (codes "read committed") value) (Some (codes "read committed"))
    (cond (is_said (codes "read uncommitted") value) (Some (codes "read uncommitted")) None)))

-- one of some values, or none of them
abbrev pub chosen : Option (List ℕ) → Verdict
chosen None = Invalid
chosen (Some value) = Becomes value

-- what comes of a value that a client gives a setting
abbrev pub accepted : Setting → List ℕ → Verdict
accepted ApplicationName value = Becomes (map shown_byte (cut NAME_BYTES_MAX value))
accepted ClientEncoding value = encoding (letters_of value)
accepted DateStyle value = chosen (date_style (closed_up value))
accepted DefaultTransactionReadOnly value = chosen (switch value)
accepted InHotStandby value = Unchangeable
accepted IntegerDatetimes value = Unchangeable
accepted IntervalStyle value = chosen (interval_style value)
accepted IsSuperuser value = Unchangeable
accepted ServerEncoding value = Unchangeable
accepted ServerVersion value = Unchangeable
accepted SessionAuthorization value = Becomes (cut NAME_BYTES_MAX value)
accepted StandardConformingStrings value = only_on value
accepted TimeZone value = cond (nat_le (length value) SHORT_BYTES_MAX) (Becomes value) Invalid
accepted ClientMinMessages value = chosen (message_level value)
accepted ExtraFloatDigits value = chosen (float_digits value)
accepted TransactionIsolation value = chosen (isolation value)
accepted TransactionReadOnly value = chosen (switch value)
