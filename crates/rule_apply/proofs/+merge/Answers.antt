use mathlib.Core.Path.{refl}
use native.Mathlib.Omega.{arith}
use borrow.Author.Rules.{rules}
use Rattle.rule_node.proofs.Outcomes.{stops, ran_passed}
use Rattle.rule_node.proofs.CacheEntries.{room_in, answered, kept_run, keepable}
use Rattle.rule_node.proofs.RuleSteps.{at_in}
use Rattle.rule_apply_leaves.specs.Combined.{code_of}
use Rattle.rule_apply.proofs.Merges.{key_as, found_as, stored_as, lasts_merge, merge_key, merge_goes, left_leaf, right_leaf, merge_ends, high_ended, low_asks, low_ended, root_asks, root_made}
use Rattle.rule_apply.proofs.+merge.Goals as goal

pub sides_at-s-requires : goal.sides_at-s-requires
sides_at-s-requires t c = (at_in c.args.f c.requires.0.bare c.requires.1, at_in c.args.g c.requires.0.bare c.requires.2)

pub combine-requires : goal.combine-requires
combine-requires t c = let o = (merge_goes c.requires.0 c.args.rule c.args.f c.args.g c.requires.1 c.requires.2 c.sides_at-s.ensures).0 c.if-s.true in
    (c.requires.0.bare, left_leaf c.requires.0 c.args.rule c.args.f c.args.g c.requires.1 c.requires.2 o, right_leaf c.requires.0 c.args.rule c.args.f c.args.g c.requires.1 c.requires.2 o)

pub returns-then-s : goal.returns-then-s
returns-then-s t c = let o = (merge_goes c.requires.0 c.args.rule c.args.f c.args.g c.requires.1 c.requires.2 c.sides_at-s.ensures).0 c.if-s.true in
    merge_ends c.requires.0 c.args.rule c.args.f c.args.g c.requires.1 c.requires.2 o c.combine.ensures

pub look-requires : goal.look-requires
look-requires t c = (room_in c.requires.0, key_as c.code-op.ensures c.args.f c.args.g (merge_key c.requires.0 c.args.rule c.args.f c.args.g c.requires.1 c.requires.2))

pub returns-in-Some : goal.returns-in-Some
returns-in-Some t c = answered c.requires.0 (code_of c.args.rule) c.args.f c.args.g 0 0 _ (found_as c.code-op.ensures c.args.f c.args.g c.args.cap _ _ c.in-Some.ensures)

pub merge-requires : goal.merge-requires
merge-requires t c = let o = (merge_goes c.requires.0 c.args.rule c.args.f c.args.g c.requires.1 c.requires.2 c.sides_at-s.ensures).1 c.if-s.false in
    (omega (arith, o.high, c.decreases), (c.requires.0, o.fh, o.gh))

pub returns-in_err-h : goal.returns-in_err-h
returns-in_err-h t c = let o = (merge_goes c.requires.0 c.args.rule c.args.f c.args.g c.requires.1 c.requires.2 c.sides_at-s.ensures).1 c.if-s.false in
    ran_passed (high_ended c.args.rule c.args.f c.args.g o c.in_err-h.ensures (stops c.in_err-h.field-0.0)) c.from_residual.ensures.1

pub merge-requires-2 : goal.merge-requires-2
merge-requires-2 t c = let o = (merge_goes c.requires.0 c.args.rule c.args.f c.args.g c.requires.1 c.requires.2 c.sides_at-s.ensures).1 c.if-s.false in
    (omega (arith, o.low, c.decreases), low_asks c.args.rule c.args.f c.args.g o c.in_ok-h.ensures)

pub returns-in_err-l : goal.returns-in_err-l
returns-in_err-l t c = let o = (merge_goes c.requires.0 c.args.rule c.args.f c.args.g c.requires.1 c.requires.2 c.sides_at-s.ensures).1 c.if-s.false in
    ran_passed (low_ended c.args.rule c.args.f c.args.g o c.in_ok-h.ensures refl c.in_err-l.ensures (stops c.in_err-l.field-0.0)) c.from_residual-in_err-l.ensures.1

pub over_root-requires : goal.over_root-requires
over_root-requires t c = let o = (merge_goes c.requires.0 c.args.rule c.args.f c.args.g c.requires.1 c.requires.2 c.sides_at-s.ensures).1 c.if-s.false in
    root_asks c.args.rule c.args.f c.args.g o c.in_ok-h.ensures refl c.in_ok-l.ensures refl

pub returns-in_err-r : goal.returns-in_err-r
returns-in_err-r t c = let o = (merge_goes c.requires.0 c.args.rule c.args.f c.args.g c.requires.1 c.requires.2 c.sides_at-s.ensures).1 c.if-s.false in
    ran_passed (root_made c.args.rule c.args.f c.args.g o c.in_ok-h.ensures refl c.in_ok-l.ensures refl c.in_err-r.ensures) c.from_residual-in_err-r.ensures.1

pub keep-requires : goal.keep-requires
keep-requires t c = let o = (merge_goes c.requires.0 c.args.rule c.args.f c.args.g c.requires.1 c.requires.2 c.sides_at-s.ensures).1 c.if-s.false in
    let J = root_made c.args.rule c.args.f c.args.g o c.in_ok-h.ensures refl c.in_ok-l.ensures refl c.in_ok-r.ensures in
    keepable J refl (key_as c.code-op.ensures c.args.f c.args.g (merge_key c.requires.0 c.args.rule c.args.f c.args.g c.requires.1 c.requires.2))

pub shape_of-nodes : goal.shape_of-nodes
shape_of-nodes t c = search (rules, c.merge.auto, c.merge-2.auto, c.over_root.auto, c.keep.auto)

pub shape_of-work : goal.shape_of-work
shape_of-work t c = search (rules, c.merge.auto, c.merge-2.auto, c.over_root.auto, c.keep.auto)

pub returns : goal.returns
returns t c = let o = (merge_goes c.requires.0 c.args.rule c.args.f c.args.g c.requires.1 c.requires.2 c.sides_at-s.ensures).1 c.if-s.false in
    let J = root_made c.args.rule c.args.f c.args.g o c.in_ok-h.ensures refl c.in_ok-l.ensures refl c.in_ok-r.ensures in
    kept_run (lasts_merge _ _ c.args.f c.args.g c.requires.1 c.requires.2 c.args.rule) J refl (stored_as c.code-op.ensures c.args.f c.args.g c.args.cap _ _ _ c.keep.ensures)
