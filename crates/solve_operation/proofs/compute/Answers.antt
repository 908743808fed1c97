-- `solve_operation::compute` meets its contract: one case for each rule: `Fits` says that its roots are there, and `Below` that they are in the table.
use native.Mathlib.Omega.{arith}
use lib.ListN.{length}
use Rattle.solve_operation.proofs.Rules.{zero_plain, zero_ran, levels_took, expect_took, reward_took, best_took, levels_fit, expect_fit, reward_fit, best_fit}
use Rattle.solve_operation.proofs.compute.Goals as goal

pub make_leaf-requires : goal.make_leaf-requires
make_leaf-requires c = (c.requires.0.bare, zero_plain c.zero.ensures)

pub replace_levels-requires : goal.replace_levels-requires
replace_levels-requires c = (c.requires.0, c.requires.1, levels_fit (length c.args.roots.now) c.args.rule c.requires.2 c.in-Levels.is)

pub expectation-requires : goal.expectation-requires
expectation-requires c = let h = expect_fit (length c.args.roots.now) c.args.rule c.requires.2 c.in-Expect.is in
    (c.requires.0, c.requires.1.at _ h.0, c.requires.1.at _ h.3, h.1, h.2, h.4)

pub add_reward-requires : goal.add_reward-requires
add_reward-requires c = let h = reward_fit (length c.args.roots.now) c.args.rule c.requires.2 c.in-Reward.is in
    (c.requires.0, c.requires.1.at _ h.0, c.requires.1.at _ h.1, h.2)

pub merge-requires : goal.merge-requires
merge-requires c = let h = best_fit (length c.args.roots.now) c.args.rule c.requires.2 c.in-Best.is in
    (c.requires.0, c.requires.1.at _ h.0, c.requires.1.at _ h.1)

pub returns-in-Zero : goal.returns-in-Zero
returns-in-Zero c = zero_ran c.args.roots.now c.args.rule c.in-Zero.is c.zero.ensures c.requires.0 c.make_leaf.ensures

pub returns-in-Levels : goal.returns-in-Levels
returns-in-Levels c = levels_took c.args.roots.now c.args.rule c.in-Levels.is c.replace_levels.ensures

pub returns-in-Expect : goal.returns-in-Expect
returns-in-Expect c = expect_took c.args.roots.now c.args.rule c.in-Expect.is c.requires.2 c.expectation.ensures

pub returns-in-Reward : goal.returns-in-Reward
returns-in-Reward c = reward_took c.args.roots.now c.args.rule c.in-Reward.is c.requires.2 c.add_reward.ensures

pub returns-in-Best : goal.returns-in-Best
returns-in-Best c = best_took c.args.roots.now c.args.rule c.in-Best.is c.requires.2 c.merge.ensures

pub offset_bounds-roots-w : goal.offset_bounds-roots-w
offset_bounds-roots-w c = let h = expect_fit (length c.args.roots.now) c.args.rule c.requires.2 c.in-Expect.is in omega arith

pub bounds-roots-w : goal.bounds-roots-w
bounds-roots-w c = let h = expect_fit (length c.args.roots.now) c.args.rule c.requires.2 c.in-Expect.is in omega arith

pub offset_bounds-roots-f : goal.offset_bounds-roots-f
offset_bounds-roots-f c = let h = expect_fit (length c.args.roots.now) c.args.rule c.requires.2 c.in-Expect.is in omega arith

pub bounds-roots-f : goal.bounds-roots-f
bounds-roots-f c = let h = expect_fit (length c.args.roots.now) c.args.rule c.requires.2 c.in-Expect.is in omega arith

pub overflow_cast-weights : goal.overflow_cast-weights
overflow_cast-weights c = let h = expect_fit (length c.args.roots.now) c.args.rule c.requires.2 c.in-Expect.is in omega arith

pub offset_bounds-roots-reward : goal.offset_bounds-roots-reward
offset_bounds-roots-reward c = let h = reward_fit (length c.args.roots.now) c.args.rule c.requires.2 c.in-Reward.is in omega arith

pub bounds-roots-reward : goal.bounds-roots-reward
bounds-roots-reward c = let h = reward_fit (length c.args.roots.now) c.args.rule c.requires.2 c.in-Reward.is in omega arith

pub offset_bounds-roots-f-in-Reward : goal.offset_bounds-roots-f-in-Reward
offset_bounds-roots-f-in-Reward c = let h = reward_fit (length c.args.roots.now) c.args.rule c.requires.2 c.in-Reward.is in omega arith

pub bounds-roots-f-in-Reward : goal.bounds-roots-f-in-Reward
bounds-roots-f-in-Reward c = let h = reward_fit (length c.args.roots.now) c.args.rule c.requires.2 c.in-Reward.is in omega arith

pub offset_bounds-roots-f-in-Best : goal.offset_bounds-roots-f-in-Best
offset_bounds-roots-f-in-Best c = let h = best_fit (length c.args.roots.now) c.args.rule c.requires.2 c.in-Best.is in omega arith

pub bounds-roots-f-in-Best : goal.bounds-roots-f-in-Best
bounds-roots-f-in-Best c = let h = best_fit (length c.args.roots.now) c.args.rule c.requires.2 c.in-Best.is in omega arith

pub offset_bounds-roots-g : goal.offset_bounds-roots-g
offset_bounds-roots-g c = let h = best_fit (length c.args.roots.now) c.args.rule c.requires.2 c.in-Best.is in omega arith

pub bounds-roots-g : goal.bounds-roots-g
bounds-roots-g c = let h = best_fit (length c.args.roots.now) c.args.rule c.requires.2 c.in-Best.is in omega arith
