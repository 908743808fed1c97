-- `rule_tests::order_numbers` meets its contract: the numbers are ordered as those from k on are; the first two coefficients that differ decide, and else the constant.
use mathlib.Core.Path.{◌≡◌}
use lib.ListN.{drop, take}
use Rattle.whole.specs.Linears.{numbers, cmp_list}
use Rattle.rule_tests.proofs.order_numbers.Given as goal

abbrev pub invariant-loop-k : goal.invariant-loop-k
invariant-loop-k l = cmp_list (drop l.k (take numbers (drop l.i l.a))) (drop l.k (take numbers (drop l.j l.b))) ≡ cmp_list (take numbers (drop l.i l.a)) (take numbers (drop l.j l.b))
