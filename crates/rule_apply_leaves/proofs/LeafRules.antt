-- What each rule makes of two leaves.
use mathlib.Core.Path.{◌≡◌, sym, ap}
use Rattle.theory.specs.Diagram.{Leaf}
use Rattle.theory.specs.Rules.{leaf_sum, leaf_product, leaf_best}
use Rattle.rule_apply_leaves.specs.Combined.{leaf_rule}
use Rattle.rule_apply_leaves.specs.declared.Merge.{Merge}
use Rattle.rule_apply_leaves.specs.declared.Merge.TheVariants.{Sum, Product, Best}

module _ (r : Merge) (f g : Leaf) where
  pub is_sum : r ≡ Sum → leaf_sum f g ≡ leaf_rule r f g
  unfolding leaf_rule
  is_sum e = sym (ap (λ (m : Merge). leaf_rule m f g) e)

  pub is_product : r ≡ Product → leaf_product f g ≡ leaf_rule r f g
  unfolding leaf_rule
  is_product e = sym (ap (λ (m : Merge). leaf_rule m f g) e)

  pub is_best : r ≡ Best → leaf_best f g ≡ leaf_rule r f g
  unfolding leaf_rule
  is_best e = sym (ap (λ (m : Merge). leaf_rule m f g) e)
