use Rattle.pgn_model.proofs.NextLineLaws.{empty-stands, stands_fresh-grows, holds-grows, holds-shows, holds-within, comes_next-grows, line-replies, line-refuses, line-is_silent, commits_next-grows, line-commits, line-meets_full, last-is_published, last-met_full, commit-finishes, full-finishes, commit-keeps_full, full-keeps_full, line-gives_channels, line-gives_usage, line-signals, line-awaits, await-finds, await-times_out, line-quits, idle-reads, await-reads, end-reads, no_listener-is_up_to_date, reader-is_up_to_date, quiet-is_up_to_date, end-is_lawful, end-is_fresh}
use Rattle.pgn_laws.proofs.NextLineLaws.{line-is_kept, no_list-outside, block-commits, one-commits}
use Rattle.pgn_laws.proofs.model.next_line.Goals as goal

pub returns-clause-empty_stands : goal.returns-clause-empty_stands
returns-clause-empty_stands c = empty-stands

pub returns-clause-stands_fresh_grows : goal.returns-clause-stands_fresh_grows
returns-clause-stands_fresh_grows c = stands_fresh-grows

pub returns-clause-comes_next_grows : goal.returns-clause-comes_next_grows
returns-clause-comes_next_grows c = comes_next-grows

pub returns-clause-replies : goal.returns-clause-replies
returns-clause-replies c = line-replies

pub returns-clause-refuses : goal.returns-clause-refuses
returns-clause-refuses c = line-refuses

pub returns-clause-is_silent : goal.returns-clause-is_silent
returns-clause-is_silent c = line-is_silent

pub returns-clause-is_kept : goal.returns-clause-is_kept
returns-clause-is_kept c = line-is_kept

pub returns-clause-commits : goal.returns-clause-commits
returns-clause-commits c = line-commits

pub returns-clause-meets_full : goal.returns-clause-meets_full
returns-clause-meets_full c = line-meets_full

pub returns-clause-gives_channels : goal.returns-clause-gives_channels
returns-clause-gives_channels c = line-gives_channels

pub returns-clause-gives_usage : goal.returns-clause-gives_usage
returns-clause-gives_usage c = line-gives_usage

pub returns-clause-signals : goal.returns-clause-signals
returns-clause-signals c = line-signals

pub returns-clause-awaits : goal.returns-clause-awaits
returns-clause-awaits c = line-awaits

pub returns-clause-finds : goal.returns-clause-finds
returns-clause-finds c = await-finds

pub returns-clause-times_out : goal.returns-clause-times_out
returns-clause-times_out c = await-times_out

pub returns-clause-quits : goal.returns-clause-quits
returns-clause-quits c = line-quits

pub returns-clause-idle_reads : goal.returns-clause-idle_reads
returns-clause-idle_reads c = idle-reads

pub returns-clause-await_reads : goal.returns-clause-await_reads
returns-clause-await_reads c = await-reads

pub returns-clause-end_reads : goal.returns-clause-end_reads
returns-clause-end_reads c = end-reads

pub returns-clause-no_listener : goal.returns-clause-no_listener
returns-clause-no_listener c = no_listener-is_up_to_date

pub returns-clause-reader : goal.returns-clause-reader
returns-clause-reader c = reader-is_up_to_date

pub returns-clause-end_is_lawful : goal.returns-clause-end_is_lawful
returns-clause-end_is_lawful c = end-is_lawful

pub returns-clause-end_is_fresh : goal.returns-clause-end_is_fresh
returns-clause-end_is_fresh c = end-is_fresh

pub returns-clause-last_is_published : goal.returns-clause-last_is_published
returns-clause-last_is_published c = last-is_published

pub returns-clause-last_met_full : goal.returns-clause-last_met_full
returns-clause-last_met_full c = last-met_full

pub returns-clause-commit_finishes : goal.returns-clause-commit_finishes
returns-clause-commit_finishes c = commit-finishes

pub returns-clause-full_finishes : goal.returns-clause-full_finishes
returns-clause-full_finishes c = full-finishes

pub returns-clause-commit_keeps_full : goal.returns-clause-commit_keeps_full
returns-clause-commit_keeps_full c = commit-keeps_full

pub returns-clause-full_keeps_full : goal.returns-clause-full_keeps_full
returns-clause-full_keeps_full c = full-keeps_full

pub returns-clause-quiet : goal.returns-clause-quiet
returns-clause-quiet c = quiet-is_up_to_date

pub returns-clause-block_commits : goal.returns-clause-block_commits
returns-clause-block_commits c = block-commits

pub returns-clause-one_commits : goal.returns-clause-one_commits
returns-clause-one_commits c = one-commits

pub returns-clause-holds_grows : goal.returns-clause-holds_grows
returns-clause-holds_grows c = holds-grows

pub returns-clause-holds_shows : goal.returns-clause-holds_shows
returns-clause-holds_shows c = holds-shows

pub returns-clause-holds_within : goal.returns-clause-holds_within
returns-clause-holds_within c = holds-within

pub returns-clause-no_list_outside : goal.returns-clause-no_list_outside
returns-clause-no_list_outside c = no_list-outside

pub returns-clause-commits_next_grows : goal.returns-clause-commits_next_grows
returns-clause-commits_next_grows c = commits_next-grows
