-- A small model with every command, in both forms, computed from its bytes on.
use Rattle.std.specs.Prelude.{◌≡◌, refl, Bool, ◌&&◌, List, [], ◌∷◌, ◌++◌, ℕ, T, eqb, length, replicate}
use Rattle.theory.specs.Diagram as Diagram
use Rattle.theory.specs.Valid as Valid
use Rattle.theory.specs.Command as Command
use Rattle.theory.specs.Verdict as Verdict
use Rattle.theory.specs.Load as Load
use Rattle.theory.specs.Listing as Listing
use Rattle.convert_forms.specs.Forms as Forms
use Rattle.convert_model.specs.Conversion as Conversion

-- one name that unfolds all that the cases compute with
unfoldable definitions : Unit {0}
unfolding Diagram.zeros Diagram.padded Valid.all Valid.among Command.width_in Command.word_at Command.signed Command.signed_from Command.bytes_at
    Command.linear_in Command.command_in Command.read_in Command.goes_on Command.readings_from_in Command.readings_in Verdict.same_slot Verdict.has_slot
    Verdict.first_broken Verdict.beyond Verdict.next_condition Verdict.printable Verdict.is_weight Verdict.of_site Verdict.may_be Verdict.joined Verdict.from_to
    Verdict.wanted_by Verdict.wanted Verdict.site_rules Verdict.first_rules Verdict.later_rules Verdict.rules_in Verdict.after Verdict.ended Verdict.judged_in
    Verdict.verdict_in Load.site_in Listing.written Forms.layout_in Forms.byte_in Forms.copied Forms.fitted Forms.converted Forms.converted_all Forms.model_as
    Conversion.own_refusal Conversion.too_large Conversion.is_forbidden Conversion.forbids Conversion.unfit Conversion.conversion_refusal Conversion.conversion
definitions = tt

-- a number of four bytes
abbrev four : ℕ → List ℕ
four k = k ∷ 0 ∷ 0 ∷ 0 ∷ []

-- a coefficient of level 1 and one of level 4, and a constant
abbrev old_linear : ℕ → ℕ → ℕ → List ℕ
old_linear a d k = four a ++ (replicate 8 0 ++ (four d ++ four k))

abbrev new_linear : ℕ → ℕ → ℕ → List ℕ
new_linear a d k = four a ++ (replicate 8 0 ++ (four d ++ (replicate 16 0 ++ four k)))

-- the name `A`
abbrev name_a : List ℕ
name_a = 0x41 ∷ replicate 15 0x20

-- four levels, one condition, one action, W = 10: a reward, a chance, four next levels, an end worth, a name
abbrev pub old_model : List ℕ
old_model =
    (0x01 ∷ 4 ∷ 1 ∷ 1 ∷ 10 ∷ []) ++ ((0x10 ∷ old_linear 1 2 5) ++ ((0x20 ∷ 1 ∷ []) ++ ((0x10 ∷ old_linear 0 0 3) ++ ((0x21 ∷ 1 ∷ 1 ∷ [])
    ++ ((0x10 ∷ old_linear 1 0 0) ++ ((0x10 ∷ old_linear 0 0 7) ++ ((0x11 ∷ 5 ∷ []) ++ ((0x22 ∷ 1 ∷ 1 ∷ [])
    ++ ((0x10 ∷ old_linear 1 0 0) ++ ((0x10 ∷ old_linear 0 0 7) ++ ((0x12 ∷ old_linear 0 3 0) ++ ((0x22 ∷ 1 ∷ 2 ∷ [])
    ++ ((0x10 ∷ old_linear 0 0 0) ++ ((0x22 ∷ 1 ∷ 3 ∷ []) ++ ((0x10 ∷ old_linear 0 1 0) ++ ((0x22 ∷ 1 ∷ 4 ∷ [])
    ++ ((0x10 ∷ old_linear 0 0 9) ++ ((0x23 ∷ []) ++ ((0x30 ∷ 1 ∷ name_a) ++ (0xff ∷ []))))))))))))))))))))

abbrev pub new_model : List ℕ
new_model =
    (0x02 ∷ 4 ∷ 1 ∷ 1 ∷ 0 ∷ 10 ∷ []) ++ ((0x10 ∷ new_linear 1 2 5) ++ ((0x20 ∷ 1 ∷ 0 ∷ []) ++ ((0x10 ∷ new_linear 0 0 3) ++ ((0x21 ∷ 1 ∷ 0 ∷ 1 ∷ [])
    ++ ((0x10 ∷ new_linear 1 0 0) ++ ((0x10 ∷ new_linear 0 0 7) ++ ((0x11 ∷ 5 ∷ []) ++ ((0x22 ∷ 1 ∷ 0 ∷ 1 ∷ [])
    ++ ((0x10 ∷ new_linear 1 0 0) ++ ((0x10 ∷ new_linear 0 0 7) ++ ((0x12 ∷ new_linear 0 3 0) ++ ((0x22 ∷ 1 ∷ 0 ∷ 2 ∷ [])
    ++ ((0x10 ∷ new_linear 0 0 0) ++ ((0x22 ∷ 1 ∷ 0 ∷ 3 ∷ []) ++ ((0x10 ∷ new_linear 0 1 0) ++ ((0x22 ∷ 1 ∷ 0 ∷ 4 ∷ [])
    ++ ((0x10 ∷ new_linear 0 0 9) ++ ((0x23 ∷ []) ++ ((0x30 ∷ 1 ∷ 0 ∷ name_a) ++ (0xff ∷ []))))))))))))))))))))

-- byte for byte, with three bytes behind it that stay
pub forward_bytes : Conversion.to_new old_model (replicate (length new_model) 7 ++ (1 ∷ 2 ∷ 3 ∷ []))
    ≡ record { number = 0; place = 0; size = length new_model; buffer = new_model ++ (1 ∷ 2 ∷ 3 ∷ []) }
unfolding definitions
forward_bytes = refl

pub back_bytes : Conversion.to_old new_model (replicate (length old_model) 7 ++ (1 ∷ 2 ∷ 3 ∷ []))
    ≡ record { number = 0; place = 0; size = length old_model; buffer = old_model ++ (1 ∷ 2 ∷ 3 ∷ []) }
unfolding definitions
back_bytes = refl

-- five levels or nine actions
abbrev levels_five : List ℕ
levels_five =
    (0x02 ∷ 5 ∷ 0 ∷ 1 ∷ 0 ∷ 1 ∷ []) ++ ((0x10 ∷ new_linear 0 0 0) ++ ((0x20 ∷ 1 ∷ 0 ∷ []) ++ ((0x10 ∷ new_linear 0 0 0) ++ ((0x22 ∷ 1 ∷ 0 ∷ 1 ∷ [])
    ++ ((0x10 ∷ new_linear 0 0 0) ++ ((0x22 ∷ 1 ∷ 0 ∷ 2 ∷ []) ++ ((0x10 ∷ new_linear 0 0 0) ++ ((0x22 ∷ 1 ∷ 0 ∷ 3 ∷ [])
    ++ ((0x10 ∷ new_linear 0 0 0) ++ ((0x22 ∷ 1 ∷ 0 ∷ 4 ∷ []) ++ ((0x10 ∷ new_linear 0 0 0) ++ ((0x22 ∷ 1 ∷ 0 ∷ 5 ∷ []) ++ (0xff ∷ [])))))))))))))

-- a reward that is forbidden where level 1 is above 0
abbrev forbidding : List ℕ
forbidding =
    (0x02 ∷ 1 ∷ 0 ∷ 1 ∷ 0 ∷ 1 ∷ []) ++ ((0x10 ∷ new_linear 0 0 0) ++ ((0x13 ∷ []) ++ ((0x12 ∷ new_linear 1 0 0) ++ ((0x20 ∷ 1 ∷ 0 ∷ [])
    ++ ((0x10 ∷ new_linear 0 0 0) ++ ((0x22 ∷ 1 ∷ 0 ∷ 1 ∷ []) ++ (0xff ∷ [])))))))

-- number, place and length, the buffer as it was
abbrev refuses : List ℕ → ℕ → ℕ → ℕ → Bool
refuses B room k p = let o = Conversion.to_old B (replicate room 7) in eqb o.number k && (eqb o.place p && eqb o.size 0)

-- 20 before 17, also for a 13; 17 by one byte; an old model is no new one: 3 at its first byte
pub back_refused : T (refuses levels_five 0 20 0 && (refuses forbidding 0 20 0 && (refuses new_model 0 17 0 && refuses old_model 0 3 0)))
unfolding definitions
back_refused = tt
