-- The loop's invariant: for all parts that come where the loop begins, the commands of those passed are written, and the others come where it is.
use mathlib.Core.Path.{◌≡◌, refl, sym, ap, ◌∙◌}
use mathlib.Core.Bool.{true, false}
use mathlib.Core.List.{List, [], ◌∷◌, ◌++◌, append_assoc}
use Prim.Native.Nat.{ℕ, ◌≤◌, ◌<◌}
use lib.ListN.{length}
use Rattle.theory.specs.Command.{Command, end_model}
use Rattle.import_grammar.specs.Grammar.{Spaces}
use Rattle.text_decimal.specs.Put.{PutAt}
use Rattle.text_decimal.proofs.Puts.{none, then, rename}
use Rattle.import_model.specs.Encode.{command_bytes, encode}
use Rattle.import_model.specs.Import.{model_bytes}
use Rattle.import_list.specs.Packed.{list_most}
use Rattle.import_parts.specs.Parts.{TextPart, site_command, part_commands, parts_commands, Walked}
use Rattle.import_parts.specs.laws.Order.{text_parts, text_site, text_commands_order}
use Rattle.import_parts.specs.laws.Within.{parts_within}
use Rattle.import_parts.specs.laws.Walks.{walk_on, walk_ended, walk_not_ended}
use Rattle.import_emit_cases.specs.Emitting.{is_full, place, PutBytes}
use Rattle.import_emit.specs.Items.{PartsCome, Buffers, PartAt, PartPut, PartsAt, CommandPut, ReadingWithin}
use Rattle.std.specs.Prelude.{Result, Ok, Err}
use Rattle.import_emit_cases.specs.declared.Full.{Full}
use Rattle.import_emit.specs.declared.items.Passed.{Passed}
use Rattle.import_emit.proofs.Puts.{encode_append, encode_more, inside, put_as, full_before, behind}
use Rattle.import_emit.proofs.Part.{as_walked}

-- the bytes of a whole text: its site's, then those of its parts and the end
pub whole_text : {w : List ℕ} (t : ReadingWithin w) → command_bytes (site_command (text_site t.text)) ++ encode (parts_commands (text_parts t.text) ++ (end_model ∷ [])) ≡ model_bytes t.text
unfolding model_bytes encode
whole_text t = ap encode (sym (text_commands_order t.text))

-- how far the walk over some parts has come
pub record Gone (w out₀ : List ℕ) (start : ℕ) (P : List TextPart) (e : Spaces) (i at : ℕ) (out : List ℕ) : Type 0 where
  pub done : List Command
  pub left : List TextPart
  pub walked : Walked w (parts_commands P ++ (end_model ∷ [])) i done left e
  pub within : parts_within left
  pub put : PutAt out₀ start (encode done) at out

pub record Going (w : List ℕ) (from : ℕ) (out₀ : List ℕ) (start : ℕ) (l : List ℕ) (i at : ℕ) (out : List ℕ) : Type 0 where
  pub same : length out ≡ length out₀
  pub long : length l ≡ list_most
  pub room : at ≤ length out
  pub gone : (P : List TextPart) (e : Spaces) → PartsCome w from P e → Gone w out₀ start P e i at out

module _ (w : List ℕ) (from : ℕ) (l out : List ℕ) (start : ℕ) (p : PartsAt w from l out start) where
  pub begun : Going w from out start l from start out
  unfolding encode
  begun = record {
    same = refl;
    long = p.lent.long;
    room = p.lent.room;
    gone = λ P e c. record { done = []; left = P; walked = as_walked w from P e c; within = c.within; put = none out start };
  }

module _ (w out₀ : List ℕ) (start : ℕ) (s : start ≤ length out₀) (i at : ℕ) (out : List ℕ) where
  -- a part is left before the end
  pub some_part : (l : List ℕ) (P : List TextPart) (e : Spaces) → i < length w → Buffers w l out at → Gone w out₀ start P e i at out → PartAt w i l out at
  some_part l P e h n g = go g.left g.walked g.within
    where
      go : (L : List TextPart) → Walked w (parts_commands P ++ (end_model ∷ [])) i g.done L e → parts_within L → PartAt w i l out at
      go [] k j = absurd (walk_not_ended w _ i g.done e k h)
      go (x ∷ L) k j = record { lent = n; part = x; parts = L; spaces = e; comes = record { inside = k.within; bytes = k.bytes; within = j } }

  module _ (r : Passed) (out' : List ℕ) (q : PartPut w i out at r out') (h : i < length w) where
    gone_on : (P : List TextPart) (e : Spaces) → is_full r.wrote ≡ false → Gone w out₀ start P e i at out → Gone w out₀ start P e r.next (place r.wrote) out'
    gone_on P e f g = go g.left g.walked g.within
      where
        go : (L : List TextPart) → Walked w (parts_commands P ++ (end_model ∷ [])) i g.done L e → parts_within L → Gone w out₀ start P e r.next (place r.wrote) out'
        go [] k j = absurd (walk_not_ended w _ i g.done e k h)
        go (x ∷ L) k j =
            let c : PartsCome w i (x ∷ L) e = record { inside = k.within; bytes = k.bytes; within = j } in
            let d = q.on x L e c in
            record {
              done = g.done ++ part_commands x;
              left = L;
              walked = walk_on w _ i g.done x L e r.next k (record { within = d.inside; rest = d.bytes });
              within = j.1;
              put = rename (sym (encode_append g.done (part_commands x))) (then s g.put ((q.put x L e c).put f));
            }

    pub going_on : (from : ℕ) (l l' : List ℕ) → PartsAt w from l out₀ start → length l' ≡ list_most → is_full r.wrote ≡ false → ((P : List TextPart) (e : Spaces) → PartsCome w from P e → Gone w out₀ start P e i at out) → length out ≡ length out₀
        → Going w from out₀ start l' r.next (place r.wrote) out'
    going_on from l l' p n f g m = record {
      same = q.same ∙ m;
      long = n;
      room = inside s (gone_on p.parts p.spaces f (g p.parts p.spaces p.comes)).put;
      gone = λ P e c. gone_on P e f (g P e c);
    }

    full_at : (P L : List TextPart) (e : Spaces) (done : List Command) → PutAt out₀ start (encode done) at out → length out ≡ length out₀ → is_full r.wrote ≡ true
        → Walked w (parts_commands P ++ (end_model ∷ [])) i done L e → parts_within L → PutBytes out₀ start (encode (parts_commands P ++ (end_model ∷ []))) r.wrote out'
    unfolding parts_commands
    full_at P [] e done g m f k j = absurd (walk_not_ended w _ i done e k h)
    full_at P (x ∷ L) e done g m f k j =
        let R = parts_commands L ++ (end_model ∷ []) in
        let c : PartsCome w i (x ∷ L) e = record { inside = k.within; bytes = k.bytes; within = j } in
        let y = ap (λ (C : List Command). encode (done ++ C)) (append_assoc (part_commands x) (parts_commands L) (end_model ∷ [])) in
        let z = encode_append done (part_commands x ++ R) ∙ ap (λ (b : List ℕ). encode done ++ b) (encode_append (part_commands x) R) in
        put_as (sym (ap encode k.commands ∙ y ∙ z)) (behind s m g (full_before (encode R) f (q.put x L e c)))

    pub gone_full : (P : List TextPart) (e : Spaces) → length out ≡ length out₀ → is_full r.wrote ≡ true → Gone w out₀ start P e i at out → PutBytes out₀ start (encode (parts_commands P ++ (end_model ∷ []))) r.wrote out'
    gone_full P e m f g = full_at P g.left e g.done g.put m f g.walked g.within

  -- no part is left at the end
  pub gone_all : (P : List TextPart) (e : Spaces) {r : Result ℕ Full} {out' : List ℕ} → length w ≤ i → length out ≡ length out₀ → CommandPut out at end_model r out' → Gone w out₀ start P e i at out
      → PutBytes out₀ start (encode (parts_commands P ++ (end_model ∷ []))) r out'
  gone_all P e h m p g = put_as (encode_more g.done end_model ∙ sym (ap encode (walk_ended w _ i g.done g.left e g.walked h))) (behind s m g.put p.put)
