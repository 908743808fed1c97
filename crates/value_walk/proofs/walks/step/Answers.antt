-- `value_walk::walks::step` meets its contract: the row's kind tells that a condition or a test is good, so its node lies inside and has branches
-- (`tells`); the branch taken is that of `step_of_lem`, and a leaf or a bad node asks for none.
use mathlib.Core.Path.{◌∙◌}
use Rattle.table_rows.specs.declared.Kind.TheVariants.{Leaf, Condition, Test, None, Bad}
use Rattle.value_walk.proofs.Down.{tells, condition_branches, test_branches, taken_condition, taken_test, step_is}
use Rattle.value_walk.proofs.walks.step.Goals as goal

pub is_yes-requires : goal.is_yes-requires
is_yes-requires c = let t = tells _ _ _ _ c.row_kind.ensures Condition c.in-Condition.is in
    (t.inside, (condition_branches _ _ _ t.keeps).0)

pub branch-is_yes-requires : goal.branch-is_yes-requires
branch-is_yes-requires c = (tells _ _ _ _ c.row_kind.ensures Condition c.in-Condition.is).inside

pub holds-requires : goal.holds-requires
holds-requires c = let t = tells _ _ _ _ c.row_kind.ensures Test c.in-Test.is in
    (t.inside, (test_branches _ _ t.keeps).0)

pub branch-holds-requires : goal.branch-holds-requires
branch-holds-requires c = (tells _ _ _ _ c.row_kind.ensures Test c.in-Test.is).inside

pub returns-in-Leaf : goal.returns-in-Leaf
returns-in-Leaf c = step_is _ _ _ _ _ c.row_kind.ensures Leaf c.in-Leaf.is

pub returns-in-Condition : goal.returns-in-Condition
returns-in-Condition c = let t = tells _ _ _ _ c.row_kind.ensures Condition c.in-Condition.is in
    c.branch-is_yes.ensures ∙ taken_condition _ _ _ _ t.kind c.is_yes.ensures ∙ step_is _ _ _ _ _ c.row_kind.ensures Condition c.in-Condition.is

pub returns-in-Test : goal.returns-in-Test
returns-in-Test c = let t = tells _ _ _ _ c.row_kind.ensures Test c.in-Test.is in
    c.branch-holds.ensures ∙ taken_test _ _ _ _ t.kind c.holds.ensures ∙ step_is _ _ _ _ _ c.row_kind.ensures Test c.in-Test.is

pub returns-in-None : goal.returns-in-None
returns-in-None c = step_is _ _ _ _ _ c.row_kind.ensures None c.in-None.is

pub returns-in-Bad : goal.returns-in-Bad
returns-in-Bad c = step_is _ _ _ _ _ c.row_kind.ensures Bad c.in-Bad.is
