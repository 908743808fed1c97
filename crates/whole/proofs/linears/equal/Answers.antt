-- `whole::linears::equal` meets its contract: `==` of the arrays and `eq_list` both tell whether the lists are the same.
use Rattle.std.proofs.Common.{sym, ap, ◌∙◌}
use Rattle.std.proofs.lemmas.Bool.Decides.{same_from_decides, Decides-int_eq}
use Rattle.std.proofs.lemmas.Slice.Eq.{slice_eq-Decides}
use Rattle.whole.specs.Linears.{eq_list}
use Rattle.whole.specs.LinearsLaws.{eq_list_true, eq_list_refl}
use Rattle.whole.proofs.linears.equal.Goals as goal

pub returns : goal.returns
returns c = let a = c.args.a in
    same_from_decides _ _ (slice_eq-Decides Decides-int_eq a c.args.b _ c.eq.ensures) (eq_list_true a c.args.b, λ e. sym (ap (eq_list a) e) ∙ eq_list_refl a)
