-- A proof of each statement.
use Rattle.std.specs.Prelude.{◌≡◌, refl, List, [], ℕ, eqb, replicate}
use Rattle.std.proofs.Common.{sym, ap, subst, append-nil, arith}
use Rattle.whole.specs.Cases.{if}
use Rattle.theory.specs.Verdict.{Verdict, from_to}
use Rattle.theory.specs.Load.{site_at}
use Rattle.theory.specs.Solve.{early}
use Rattle.theory.specs.Name.{name_refusal, name}
use Rattle.theory.specs.Rows.{Range, Admitted, NameRow, name_0, name_1_10, name_16}
use Rattle.theory.proofs.laws.Rows.{zero_name, name_is, early_some}
use Rattle.model_find.specs.Find.{FindOut, refused_find, bearers, found_among, find}
use Rattle.model_find.specs.Statements.{Sent, FindRow, find_0, find_1_10, find_18, find_19, FindRows, FindsHome, NamesFound, SpacesLost, EmptyNobodys, Shared, SharedRefused}
use Rattle.model_find.proofs.laws.Spaces.{EndsInText, trim_more, trim_none, trim_sent}
use Rattle.model_find.proofs.laws.Bearers.{tells_one, tells_none, tells_several}
use Rattle.model_find.proofs.laws.NameCommands.{name_there, name_given_there}
use Rattle.model_find.proofs.laws.Early.{early_most}
use Rattle.model_find.proofs.laws.Rows.{find_row, find_is, find_told}

pub find_rows : FindRows
find_rows B y o = (λ r. find_is B y r, λ e. subst (FindRow B y) e (find_row B y))

-- ---- names

-- what a name that is given says of the model and the action
pub name_admitted : {B : List ℕ} {a : ℕ} {v : Verdict} → NameRow B a v → v.number ≡ 0 → Admitted B 1 8 × Range 1 (site_at B).actions a
name_admitted (name_0 d r) e = (d, r)
name_admitted (name_1_10 r) e = absurd (omega (arith, early_some r))
name_admitted (name_16 d f) e = absurd (omega arith)

pub of_name : {B : List ℕ} {a : ℕ} → (name_refusal B a).number ≡ 0 → Admitted B 1 8 × Range 1 (site_at B).actions a
of_name {B} {a} e = name_admitted (zero_name B a e) refl

name_zero : {B : List ℕ} {a : ℕ} → Admitted B 1 8 → Range 1 (site_at B).actions a → (name_refusal B a).number ≡ 0
name_zero {B} {a} d r = ap (λ (v : Verdict). v.number) (name_is B a (name_0 d r))

-- a name that is not empty has no space at its end
name_sent : (B : List ℕ) → Admitted B 1 8 → (a : ℕ) → (name B a ≡ [] → ⊥) → Sent (name B a) (name B a)
name_sent B d a some =
    let g = name_given_there B d a some in
    let e = name_there B d a g.0 g.1.0 g.1.1 in
    record { spaces = 0; bytes = sym (append-nil (name B a)); last = subst EndsInText (sym e) (trim_sent g.1.0).last }

-- ---- and home again

pub finds_home : FindsHome
finds_home B a z some own =
    let d = of_name z in
    find_told B (name B a) d.0 (name_sent B d.0 a some)
    (tells_one (record { some = some; among = d.1; named = refl }) (λ b c. own b (name_zero d.0 c.among) c.named))

pub names_found : NamesFound
names_found B y = by_row (find_row B y)
  where
    by_row : {o : FindOut} → FindRow B y o → o.number ≡ 0 → ((name_refusal B o.action).number ≡ 0) × Sent y (name B o.action)
    by_row (find_0 d s c f) z = (name_zero d c.among, subst (Sent y) (sym c.named) s)
    by_row (find_1_10 r) z = absurd (omega (arith, early_some r))
    by_row (find_18 d s f) z = absurd (omega arith)
    by_row (find_19 d s p q n) z = absurd (omega arith)

pub spaces_lost : SpacesLost
unfolding find
spaces_lost B y k =
    ap (λ (x : List ℕ). if (eqb (early B 1 8).number 0) (found_among (bearers B x (from_to 1 (site_at B).actions))) (refused_find (early B 1 8).number (early B 1 8).place)) (trim_more y k)

pub empty_nobodys : EmptyNobodys
empty_nobodys B k d = find_told B (replicate k 0x20) d (trim_sent (replicate k 0x20)) (tells_none (λ a c. c.some (trim_none k)))

pub shared_refused : SharedRefused
shared_refused B y = (
  λ h. ap (λ (o : FindOut). o.number) (find_told B y h.admitted h.is_sent (tells_several h.one_carries h.other_carries h.differ)),
  by_row (find_row B y),
)
  where
    by_row : {o : FindOut} → FindRow B y o → o.number ≡ 19 → Shared B y
    by_row (find_0 d s c f) z = absurd (omega arith)
    by_row (find_1_10 r) z = absurd (omega (arith, early_most r))
    by_row (find_18 d s f) z = absurd (omega arith)
    by_row (find_19 {x = x} {a = a} {b = b} d s p q n) z = record { admitted = d; sent = x; is_sent = s; one = a; other = b; one_carries = p; other_carries = q; differ = n }
