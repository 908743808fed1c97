-- A byte string stops at one place at most, and a text of the grammar at none.
use Rattle.std.specs.Prelude.{◌≡◌, refl, List, [], ◌∷◌, ◌++◌, ℕ, ◌<◌, ltb, length}
use Rattle.std.proofs.Common.{sym, ◌∙◌, subst, append_assoc, append-nil, arith, ltb-true, ltb-false}
use Rattle.import_grammar.specs.Grammar.{InGrammar}
use Rattle.import_grammar.proofs.laws.Case.{by_eq}
use Rattle.import_grammar.specs.laws.Viable.{BeginsText, Impossible, Stopped}

begins_less : (u v : List ℕ) → BeginsText (u ++ v) → BeginsText u
begins_less u v b = record { rest = v ++ b.rest; text = b.text; same = b.same ∙ append_assoc u v b.rest }

-- a longer beginning of the same bytes goes on with the next byte
record LaterBytes (u v u' : List ℕ) : Type 0 where
  byte : ℕ
  rest : List ℕ
  more : List ℕ
  next : v ≡ byte ∷ rest
  longer : u' ≡ (u ++ (byte ∷ [])) ++ more

one_on : (a x : ℕ) (u v y : List ℕ) → a ≡ x → LaterBytes u v y → LaterBytes (a ∷ u) v (x ∷ y)
one_on a x u v y e l = record { byte = l.byte; rest = l.rest; more = l.more; next = l.next; longer = cc l.longer }

later : (u v u' v' : List ℕ) → u ++ v ≡ u' ++ v' → length u < length u' → LaterBytes u v u'
later [] v [] v' e h = absurd (omega arith)
later [] v (x ∷ y) v' e h = record { byte = x; rest = y ++ v'; more = y; next = e; longer = refl }
later (a ∷ u) v [] v' e h = absurd (omega arith)
later (a ∷ u) v (x ∷ y) v' e h = one_on a x u v y (cc) (later u v y v' (cc) (omega arith))

not_later : (w : List ℕ) (i j : ℕ) → Stopped w i → Stopped w j → i < j → ⊥
not_later w i j s t h =
    let l : LaterBytes s.before s.after t.before =
    later s.before s.after t.before t.after (s.parts ∙ sym t.parts) (omega (arith, s.place, t.place)) in
    let no_more : BeginsText (s.before ++ (l.byte ∷ [])) → ⊥ = subst (Impossible s.before) l.next s.ending in
    no_more (begins_less (s.before ++ (l.byte ∷ [])) l.more (subst BeginsText l.longer t.begins))

pub one_place : (w : List ℕ) (i j : ℕ) → Stopped w i → Stopped w j → i ≡ j
one_place w i j s t =
    by_eq (ltb i j) (λ b. i ≡ j) (λ e. absurd (not_later w i j s t (ltb-true i j e)))
    (λ e. by_eq (ltb j i) (λ b. i ≡ j) (λ f. absurd (not_later w j i t s (ltb-true j i f))) (λ f. omega (arith, ltb-false i j e, ltb-false j i f)))

ends_whole : (w u v : List ℕ) → u ++ v ≡ w → InGrammar w → Impossible u v → ⊥
unfolding InGrammar
ends_whole w u [] e g h = h (g.0, g.1 ∙ sym e ∙ append-nil u)
ends_whole w u (k ∷ v) e g h = h (record { rest = v; text = g.0; same = g.1 ∙ sym e ∙ sym (append_assoc u (k ∷ []) v) })

pub stops_outside : (w : List ℕ) (i : ℕ) → Stopped w i → InGrammar w → ⊥
stops_outside w i s g = ends_whole w s.before s.after s.parts g s.ending
