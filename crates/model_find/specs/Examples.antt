-- Names of a small model, computed from its bytes on.
use Rattle.std.specs.Prelude.{Bool, ◌&&◌, List, [], ◌∷◌, ◌++◌, ℕ, ◌-◌, T, eqb, length, replicate}
use Rattle.theory.specs.Diagram as Diagram
use Rattle.theory.specs.Valid as Valid
use Rattle.theory.specs.Command as Command
use Rattle.theory.specs.Verdict as Verdict
use Rattle.theory.specs.Load as Load
use Rattle.theory.specs.Solve as Solve
use Rattle.theory.specs.Name as Name
use Rattle.model_find.specs.Find as Find

-- one name that unfolds all that the cases compute with
unfoldable definitions : Unit {0}
unfolding Diagram.zeros Diagram.padded Valid.all Valid.among Command.width_in Command.word_at Command.signed Command.signed_from Command.bytes_at
    Command.linear_in Command.command_in Command.read_in Command.goes_on Command.readings_from_in Command.readings_in Verdict.same_slot Verdict.has_slot
    Verdict.first_broken Verdict.beyond Verdict.printable Verdict.is_weight Verdict.of_site Verdict.may_be Verdict.from_to Verdict.wanted_by Verdict.wanted
    Verdict.site_rules Verdict.first_rules Verdict.later_rules Verdict.rules_in Verdict.after Verdict.ended Verdict.judged_in Verdict.verdict_in Load.site_in
    Solve.early Name.names_action Name.trimmed Name.named_part Name.name_refusal Name.name_part Name.name Find.trim Find.same_name Find.carries Find.bearers
    Find.found_among Find.find
definitions = tt

-- reward 0, next level 0
abbrev plain : ℕ → List ℕ
plain a = (0x10 ∷ replicate 36 0) ++ ((0x20 ∷ a ∷ 0 ∷ []) ++ ((0x10 ∷ replicate 36 0) ++ (0x22 ∷ a ∷ 0 ∷ 1 ∷ [])))

-- a name and spaces up to 16 bytes
abbrev named : ℕ → List ℕ → List ℕ
named a t = 0x30 ∷ a ∷ 0 ∷ (t ++ replicate (16 - length t) 0x20)

-- actions 1 and 4 are `A`, 2 is ` A`, 3 has no name, 5 has sixteen spaces
abbrev pub actions : List ℕ
actions =
    (0x02 ∷ 1 ∷ 0 ∷ 5 ∷ 0 ∷ 1 ∷ []) ++ (plain 1 ++ (plain 2 ++ (plain 3 ++ (plain 4 ++ (plain 5
    ++ (named 4 (0x41 ∷ []) ++ (named 1 (0x41 ∷ []) ++ (named 2 (0x20 ∷ 0x41 ∷ []) ++ (named 5 [] ++ (0xff ∷ []))))))))))

-- number, place and action
abbrev finds : List ℕ → ℕ → ℕ → Bool
finds y k a = let o = Find.find actions y in eqb o.number k && (eqb o.place 0 && eqb o.action a)

-- `A` and `A  ` are two actions'; ` A ` is one's; nothing, spaces and `a` are nobody's
pub found_by_name : T (
    finds (0x41 ∷ []) 19 0 && (finds (0x41 ∷ 0x20 ∷ 0x20 ∷ []) 19 0 && (finds (0x20 ∷ 0x41 ∷ 0x20 ∷ []) 0 2
    && (finds [] 18 0 && (finds (replicate 20 0x20) 18 0 && finds (0x61 ∷ []) 18 0)))))
unfolding definitions
found_by_name = tt
