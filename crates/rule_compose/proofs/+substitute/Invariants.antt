-- `rule_compose::substitute` meets its contract: the inner calls are at f's branches, whose indexes are smaller; each may assume its contract on the table that the call before leaves. `over_test` makes one diagram of the two results.
use Rattle.rule_compose.proofs.+substitute.Given as goal

abbrev pub decreases-substitute : goal.decreases-substitute
decreases-substitute l = l.f
