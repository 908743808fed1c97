-- A model in the other form: accepted, with the same site and the same commands, and in the first form again the same bytes.
use Rattle.std.specs.Prelude.{◌≡◌, refl, Bool, true, false, not, List, [], ◌∷◌, map, ℕ, zero, suc, ◌+◌, ◌*◌, ◌≤◌, T, eqb, ltb, length}
use Rattle.std.proofs.Common.{sym, ap, ap₂, ◌∙◌, subst, arith, T_not}
use Rattle.whole.specs.Cases.{if, not_not}
use Rattle.theory.specs.Widths.{conditions_most, weights_most}
use Rattle.theory.specs.Form.{Form, old_form, new_form, site_byte, levels_in, actions_in, action_bytes, forbidden_bytes}
use Rattle.theory.specs.Diagram.{Test, Tree}
use Rattle.theory.specs.Computation.{Comp, ret, bind, result}
use Rattle.theory.specs.Rules.{choose}
use Rattle.theory.specs.Valid.{among}
use Rattle.theory.specs.Command.{Command, site, push_leaf, push_condition, push_test, push_forbidden, give, name_action, end_model, Read, whole, unknown}
use Rattle.theory.specs.Command.{short, Placed, byte_at, width_in, command_in, goes_on, readings_from_in, readings_in, bytes_at}
use Rattle.theory.specs.Verdict.{or, Site, Verdict, refusal, site_of, Rule, rule, first_broken, site_rules, first_rules, rules_in, after, at_start, verdict_in}
use Rattle.theory.specs.Load.{Loaded, load_one_with, load_on_with, load_in, model_in, model_of, site_in}
use Rattle.theory.proofs.laws.Valid.{among_out, among_in}
use Rattle.theory.proofs.laws.AcceptedModel.{broken, unbroken, behind_in}
use Rattle.theory.proofs.laws.Rows.{by_read_in, read_whole_in}
use Rattle.convert_forms.specs.Forms.{model_as}
use Rattle.convert_model.specs.Conversion.{forbids, is_forbidden}
use Rattle.convert_model.proofs.laws.OneCommand.{Turn, turned_round, FitsForm}
use Rattle.convert_model.proofs.laws.Commands.{SiteFits, Permits, turned, turn_read, unbroken_read}

-- ---- the site

-- the site that the first command gives
abbrev SiteIs : Form → List ℕ → Command → Type 0
SiteIs F B (site m n a w) = site_of m n a w ≡ site_in F B
SiteIs F B (push_leaf p) = Unit {0}
SiteIs F B (push_condition k) = Unit {0}
SiteIs F B (push_test p) = Unit {0}
SiteIs F B push_forbidden = Unit {0}
SiteIs F B (give g) = Unit {0}
SiteIs F B (name_action a t) = Unit {0}
SiteIs F B end_model = Unit {0}

is_if : (F : Form) (B : List ℕ) (b : Bool) (c d : Command) → SiteIs F B c → SiteIs F B d → SiteIs F B (if b c d)
is_if F B true c d f g = f
is_if F B false c d f g = g

site_is : (F : Form) (B : List ℕ) → SiteIs F B (command_in F B 0)
unfolding command_in site_in
site_is F B = is_if F B (eqb (byte_at B 0) (site_byte F)) _ _ (operands F) (is_if F B (eqb (byte_at B 0) 0x10) _ _ tt (is_if F B (eqb (byte_at B 0) 0x11) _ _ tt
    (is_if F B (eqb (byte_at B 0) 0x12) _ _ tt (is_if F B (eqb (byte_at B 0) 0x13) _ _ tt (is_if F B (eqb (byte_at B 0) 0x20) _ _ tt (is_if F B (eqb (byte_at B 0) 0x21) _ _ tt
    (is_if F B (eqb (byte_at B 0) 0x22) _ _ tt (is_if F B (eqb (byte_at B 0) 0x23) _ _ tt (is_if F B (eqb (byte_at B 0) 0x30) _ _ tt tt)))))))))
  where
    operands : (F : Form) → site_of (byte_at B (0 + 1)) (byte_at B (0 + 2)) (bytes_at B (0 + 3) (action_bytes F)) (byte_at B (0 + (3 + action_bytes F))) ≡ site_in F B
    operands old_form = refl
    operands new_form = refl

passed : (k : ℕ) (b : Bool) (l : List Rule) → T (not b) → first_broken l ≡ 0 → first_broken (rule k b ∷ l) ≡ 0
unfolding first_broken
passed k true l t e = absurd t
passed k false l t e = e

-- a number that is in range in one form, and fits another
among_other : (n k a : ℕ) → T (not (not (among n a))) → a ≤ k → T (not (not (among k a)))
among_other n k a t h = twice (among k a) (among_in k a (among_out n a (not_not (among n a) t)).0 h)
  where
    twice : (b : Bool) → T b → T (not (not b))
    twice true t = tt
    twice false t = absurd t

site_passes : (F G : Form) (S : Site) → SiteFits G S → first_broken (site_rules F S) ≡ 0 → first_broken (site_rules G S) ≡ 0
unfolding site_rules
site_passes F G S r e =
    let a = unbroken 3 _ _ e in
    let b = unbroken 3 _ _ a.1 in
    let c = unbroken 3 _ _ b.1 in
    let d = unbroken 3 _ _ c.1 in
    passed 4 _ _ (among_other (levels_in F) (levels_in G) S.levels a.0 r.levels) (passed 4 (ltb conditions_most S.conditions) _ b.0
    (passed 4 _ _ (among_other (actions_in F) (actions_in G) S.actions c.0 r.actions) (passed 4 (not (among weights_most S.weights)) _ d.0 d.1)))

-- what the first command of an accepted model is in another form
record First (F G : Form) (B : List ℕ) (c : Command) : Type 0 where
  rules : first_broken (first_rules G c) ≡ 0
  fits : FitsForm G c
  begun : (after at_start c).begun ≡ true
  is_site : (after at_start c).site ≡ site_in F B
  same_site : (C : List ℕ) → SiteIs G C c → site_in G C ≡ site_in F B

first_command : (F G : Form) (B : List ℕ) (c : Command) → first_broken (first_rules F c) ≡ 0 → SiteIs F B c → SiteFits G (site_in F B) → First F G B c
unfolding first_rules after
first_command F G B (site m n a w) e i r =
    let q : SiteFits G (site_of m n a w) = subst (SiteFits G) (sym i) r in
    record { rules = site_passes F G (site_of m n a w) q e; fits = q.actions; begun = refl; is_site = i; same_site = λ C j. sym j ∙ i }
first_command F G B (push_leaf p) e i r = broken 0 _ e
first_command F G B (push_condition k) e i r = broken 0 _ e
first_command F G B (push_test p) e i r = broken 0 _ e
first_command F G B push_forbidden e i r = broken 0 _ e
first_command F G B (give g) e i r = broken 0 _ e
first_command F G B (name_action a t) e i r = broken 0 _ e
first_command F G B end_model e i r = broken 0 _ e

-- the site of an accepted model fits its own form
site_room : (F : Form) (S : Site) → first_broken (site_rules F S) ≡ 0 → SiteFits F S
unfolding site_rules
site_room F S e =
    let a = unbroken 3 _ _ e in
    let b = unbroken 3 _ _ a.1 in
    let c = unbroken 3 _ _ b.1 in
    record {
      levels = (among_out (levels_in F) S.levels (not_not (among (levels_in F) S.levels) a.0)).1;
      actions = (among_out (actions_in F) S.actions (not_not (among (actions_in F) S.actions) c.0)).1;
    }

first_room : (F : Form) (B : List ℕ) (c : Command) → first_broken (first_rules F c) ≡ 0 → SiteIs F B c → SiteFits F (site_in F B)
unfolding first_rules
first_room F B (site m n a w) e i = subst (SiteFits F) i (site_room F (site_of m n a w) e)
first_room F B (push_leaf p) e i = broken 0 _ e
first_room F B (push_condition k) e i = broken 0 _ e
first_room F B (push_test p) e i = broken 0 _ e
first_room F B push_forbidden e i = broken 0 _ e
first_room F B (give g) e i = broken 0 _ e
first_room F B (name_action a t) e i = broken 0 _ e
first_room F B end_model e i = broken 0 _ e

-- ---- the model

-- some bytes of form G are those of form F in it
pub record Carried (F G : Form) (B C : List ℕ) : Type 0 where
  pub accepted : verdict_in G C ≡ refusal 0 0
  pub reads : map (λ x. x.read) (readings_in G C) ≡ map (λ x. x.read) (readings_in F B)
  pub same_site : site_in G C ≡ site_in F B
  pub home : model_as G F C ≡ B
  pub most : length C * 21 ≤ length B * 37

first_read : List Read → Read
first_read [] = short
first_read (r ∷ l) = r

command_of_read : Read → Command
command_of_read (whole c) = c
command_of_read unknown = end_model
command_of_read short = end_model

pub carried : {F G : Form} → Turn F G → (B : List ℕ) → (verdict_in F B).number ≡ 0 → SiteFits G (site_in F B) → Permits G (readings_in F B) → Carried F G B (model_as F G B)
unfolding model_as verdict_in readings_in readings_from_in rules_in first_read command_of_read
carried {F} {G} t B v r q =
    let C = model_as F G B in
    let c = command_in F B 0 in
    let u = unbroken_read t B C (length B) 0 at_start v in
    let f = first_command F G B c u.1 (site_is F B) r in
    let d = turn_read t B C (length B) (length C) 0 0 at_start u.0 (omega arith) f.fits f.rules refl v q
    (λ next h m e j q. turned t B C (length B) (length C) (0 + width_in F (byte_at B 0)) next (after at_start c) f.begun (subst (SiteFits G) (sym f.is_site) r)
    u.0.inside (omega (arith, u.0.known)) m (omega arith) e j q) in
    let w = (unbroken_read (turned_round t) C B (length C) 0 at_start (ap (λ (v : Verdict). v.number) d.accepted)).0 in
    let e : command_in G C 0 ≡ c = ap command_of_read (sym (read_whole_in G C 0 w) ∙ ap first_read d.reads ∙ read_whole_in F B 0 u.0) in
    record { accepted = d.accepted; reads = d.reads; same_site = f.same_site C (subst (SiteIs G C) e (site_is G C)); home = d.home; most = omega (arith, d.most) }

-- ---- what is loaded

-- loading goes by what is read, not by where
load_read : (Test → Tree → Tree → Comp Tree) → Read → Loaded → (Loaded → Comp Loaded) → Comp Loaded
load_read by r s f = elim r [ whole c ↦ bind (load_one_with by c s) f | unknown ↦ ret s | short ↦ ret s ]

load_same : (by : Test → Tree → Tree → Comp Tree) (k l : List Placed) → map (λ x. x.read) k ≡ map (λ x. x.read) l → (s : Loaded) → load_on_with by k s ≡ load_on_with by l s
unfolding load_on_with load_read
load_same by [] [] e s = refl
load_same by [] (y ∷ l) e s = absurd (let z : ◌≡◌ {A = ℕ} 0 1 = cc in omega arith)
load_same by (x ∷ k) [] e s = absurd (let z : ◌≡◌ {A = ℕ} 0 1 = cc in omega arith)
load_same by (x ∷ k) (y ∷ l) e s =
    let i : x.read ≡ y.read = cc in
    let j : map (λ x. x.read) k ≡ map (λ x. x.read) l = cc in
    ap₂ (λ (r : Read) (f : Loaded → Comp Loaded). load_read by r s f) i (λ i. λ s. load_same by k l j s i)

-- the model that is loaded is the same
pub same_model : {F G : Form} {B C : List ℕ} → Carried F G B C → model_in G C ≡ model_in F B
unfolding model_in load_in
same_model {F} {G} {B} {C} x =
    ap₂ (λ (m : Comp Loaded) (S : Site). result (bind m (λ s. ret (model_of S s.entries)))) (load_same choose (readings_in G C) (readings_in F B) x.reads (record { stack = []; entries = [] })) x.same_site

pub own_room : {F G : Form} → Turn F G → (B : List ℕ) → (verdict_in F B).number ≡ 0 → SiteFits F (site_in F B)
unfolding verdict_in readings_in readings_from_in rules_in
own_room {F} t B v = first_room F B (command_in F B 0) (unbroken_read t B B (length B) 0 at_start v).1 (site_is F B)

-- ---- commands that a form has

forbids_same : (k l : List Placed) → map (λ x. x.read) k ≡ map (λ x. x.read) l → forbids k ≡ forbids l
unfolding forbids
forbids_same [] [] e = refl
forbids_same [] (y ∷ l) e = absurd (let z : ◌≡◌ {A = ℕ} 0 1 = cc in omega arith)
forbids_same (x ∷ k) [] e = absurd (let z : ◌≡◌ {A = ℕ} 0 1 = cc in omega arith)
forbids_same (x ∷ k) (y ∷ l) e =
    let i : x.read ≡ y.read = cc in
    let j : map (λ x. x.read) k ≡ map (λ x. x.read) l = cc in
    ap₂ (λ (r : Read) (b : Bool). or (is_forbidden r) b) i (forbids_same k l j)

-- a command that is not 13, of any width
other : (b : Bool) (x y : Command) (v w k : ℕ) → T (not (is_forbidden (whole x))) → (T (is_forbidden (whole y)) → 1 ≤ w → 1 ≤ k) → T (is_forbidden (whole (if b x y))) → 1 ≤ if b v w → 1 ≤ k
other true x y v w k n f t h = absurd (T_not (is_forbidden (whole x)) n t)
other false x y v w k n f t h = f t h

this : (b : Bool) (y : Command) (v w : ℕ) → (T (is_forbidden (whole y)) → 1 ≤ w → 1 ≤ v) → T (is_forbidden (whole (if b push_forbidden y))) → 1 ≤ if b v w → 1 ≤ v
this true y v w f t h = h
this false y v w f t h = f t h

forbidden_wide : (F : Form) (B : List ℕ) (at : ℕ) → T (is_forbidden (whole (command_in F B at))) → 1 ≤ width_in F (byte_at B at) → 1 ≤ forbidden_bytes F
unfolding command_in width_in is_forbidden
forbidden_wide F B at =
    let op = byte_at B at in
    other (eqb op (site_byte F)) _ _ _ _ _ tt (other (eqb op 0x10) _ _ _ _ _ tt (other (eqb op 0x11) _ _ _ _ _ tt (other (eqb op 0x12) _ _ _ _ _ tt (this (eqb op 0x13) _ _ _
    (other (eqb op 0x20) _ _ _ _ _ tt (other (eqb op 0x21) _ _ _ _ _ tt (other (eqb op 0x22) _ _ _ _ _ tt (other (eqb op 0x23) _ _ _ _ _ tt
    (other (eqb op 0x30) _ _ _ _ _ tt (λ t _. absurd t))))))))))

-- a form has the commands that are read in it
own_from : (F : Form) (B : List ℕ) (k at : ℕ) → Permits F (readings_from_in F B k at)
unfolding readings_from_in forbids is_forbidden goes_on
own_from F B zero at t = absurd t
own_from F B (suc k) at t = by_read_in F B at (λ r. T (or (is_forbidden r) (forbids (behind_in F B k at (goes_on r)))) → 1 ≤ forbidden_bytes F)
    (λ _ u. absurd u) (λ _ _ u. absurd u) (λ _ _ _ u. absurd u)
    (λ w u. either (is_forbidden (whole (command_in F B at))) _ u (λ a. forbidden_wide F B at a w.known) (behind (goes_on (whole (command_in F B at))) (own_from F B k (at + width_in F (byte_at B at))))) t
  where
    either : (a b : Bool) → T (or a b) → (T a → 1 ≤ forbidden_bytes F) → (T b → 1 ≤ forbidden_bytes F) → 1 ≤ forbidden_bytes F
    either true b t f g = f t
    either false b t f g = g t

    behind : (b : Bool) → Permits F (readings_from_in F B k (at + width_in F (byte_at B at))) → Permits F (behind_in F B k at b)
    behind true f = f
    behind false f = λ t. absurd t

pub own_permits : (F : Form) (B : List ℕ) → Permits F (readings_in F B)
unfolding readings_in
own_permits F B = own_from F B (suc (length B)) 0

pub permits_as : {F G : Form} {B C : List ℕ} → Carried F G B C → (E : Form) → Permits E (readings_in F B) → Permits E (readings_in G C)
permits_as {F} {G} {B} {C} x E f t = f (subst T (forbids_same (readings_in G C) (readings_in F B) x.reads) t)
