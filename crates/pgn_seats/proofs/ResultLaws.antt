-- What holds by the answer of a call.
use Rattle.std.proofs.Common.{Result, Ok, Err, OnOk, OnErr}

-- it holds whatever the answer is
pub on_ok : {T E : Type 0} (r : Result T E) (P : Type 0) → P → OnOk r P
on_ok (Ok x) P p = p
on_ok (Err e) P p = tt

-- what holds anyhow holds in a refusal
pub on_err : {T E : Type 0} (r : Result T E) (P : Type 0) → P → OnErr r P
on_err (Ok x) P p = tt
on_err (Err e) P p = p

-- one fact from another
pub ok_then : {T E : Type 0} (r : Result T E) (P Q : Type 0) → (P → Q) → OnOk r P → OnOk r Q
ok_then (Ok x) P Q f p = f p
ok_then (Err e) P Q f p = tt

-- what follows from a fact of a refusal
pub err_then : {T E : Type 0} (r : Result T E) (P Q : Type 0) → (P → Q) → OnErr r P → OnErr r Q
err_then (Ok x) P Q f p = tt
err_then (Err e) P Q f p = f p

-- what follows from two facts of an Ok
pub ok_both : {T E : Type 0} (r : Result T E) (P Q R : Type 0) → (P → Q → R) → OnOk r P → OnOk r Q → OnOk r R
ok_both (Ok x) P Q R f p q = f p q
ok_both (Err e) P Q R f p q = tt

-- by either answer
pub by_either : {T E : Type 0} (r : Result T E) (P : Type 0) → OnOk r P → OnErr r P → P
by_either (Ok x) P p q = p
by_either (Err e) P p q = q
