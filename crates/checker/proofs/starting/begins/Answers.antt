use Rattle.std.proofs.Common.{rules}
use Rattle.std.proofs.lemmas.Nat.Gcd.{dvd_of_mod-eq-zero, mod-eq-zero_of_dvd}
use Rattle.checker.proofs.starting.begins.Goals as goal

pub returns-then-t-offset : goal.returns-then-t-offset
returns-then-t-offset c = search (rules, dvd_of_mod-eq-zero, mod-eq-zero_of_dvd)
