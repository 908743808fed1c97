-- Texts and what they become, computed from their bytes on.
use Rattle.std.specs.Prelude.{◌≡◌, refl, Bool, ◌&&◌, List, [], ◌∷◌, ◌++◌, ℕ, ◌-◌, ◌/◌, ◌%◌, ℤ, pos, negsuc, T, eqb, length, replicate}
use Rattle.theory.specs.Diagram as Diagram
use Rattle.theory.specs.Valid as Valid
use Rattle.theory.specs.Plain as Plain
use Rattle.theory.specs.Command as Command
use Rattle.theory.specs.Verdict as Verdict
use Rattle.theory.specs.Listing as Listing
use Rattle.convert_model.specs.Conversion as Conversion
use Rattle.import_grammar.specs.Ascii.{ascii}
use Rattle.import_grammar.specs.Reader as Reader
use Rattle.import_grammar.specs.laws.Viable as Viable
use Rattle.import_numbers.specs.Numbers as Numbers
use Rattle.import_model.specs.Commands as Commands
use Rattle.import_model.specs.Encode as Encode
use Rattle.import_model.specs.Import as Import

-- one name that unfolds all that the cases compute with
unfoldable definitions : Unit {0}
unfolding ascii Diagram.zeros Diagram.padded Diagram.no_coeffs Diagram.add_list Diagram.scale_list Diagram.◌⊞◌ Diagram.◌⊟◌ Diagram.◌⊠◌ Valid.all Valid.among Plain.in_32_bits
    Command.width_in Command.word_at Command.signed Command.signed_from Command.bytes_at Command.linear_in Command.command_in Command.read_in Command.goes_on
    Command.readings_from_in Command.readings_in Verdict.same_slot Verdict.has_slot Verdict.first_broken Verdict.beyond Verdict.next_condition Verdict.printable
    Verdict.is_weight Verdict.of_site Verdict.may_be Verdict.joined Verdict.from_to Verdict.wanted_by Verdict.wanted Verdict.site_rules Verdict.first_rules
    Verdict.later_rules Verdict.rules_in Verdict.after Verdict.ended Verdict.judged_in Verdict.verdict_in Listing.written Conversion.own_refusal Reader.run
    Reader.step Reader.step_on Reader.step_mid Reader.finish Reader.extended Reader.cextended Reader.close_left Reader.close_cond Reader.colon Reader.else_here
    Reader.joined Reader.ending Reader.close_const Reader.minus_here Reader.cminus_here Reader.core_here Reader.factor_here Reader.equals_here Reader.equals_above
    Reader.begin_cond Reader.begin_sum Reader.open_behind Reader.open_const Reader.item_here Reader.resulted Reader.letter_here Reader.settled Reader.hextended
    Reader.iextended Reader.by_kind Reader.quote_here Reader.with_plain Reader.char_here Viable.concluded Viable.scan Numbers.digits_value Numbers.kfactor_linear
    Numbers.vfactor_linear Numbers.linear_of Numbers.kfactor_numbers Numbers.vfactor_numbers Numbers.sum_numbers Numbers.atom_numbers Numbers.result_numbers
    Numbers.setting_numbers Numbers.before_numbers Numbers.numbers Numbers.all_within Numbers.beyond Commands.condition_of Commands.level_of Commands.later_of
    Commands.at_most Commands.compare_commands Commands.nots_commands Commands.or_commands Commands.result_command Commands.letters Commands.filled
    Commands.items_commands Commands.text_commands Encode.low_first Encode.word_of Encode.words_bytes Encode.linear_bytes Encode.slot_bytes Encode.command_bytes
    Encode.encode Import.model_bytes Import.import_refusal Import.imported Import.import_text
definitions = tt

-- ---- models as bytes

-- four bytes, low byte first
abbrev bytes_of : ℕ → List ℕ
bytes_of n = n % 256 ∷ n / 256 % 256 ∷ n / 65536 % 256 ∷ n / 16777216 ∷ []

-- a number below zero as its complement
abbrev word : ℤ → List ℕ
word (pos n) = bytes_of n
word (negsuc n) = bytes_of (4294967295 - n)

-- a × L1 + c
abbrev linear₁ : ℤ → ℤ → List ℕ
linear₁ a c = word a ++ (replicate 28 0 ++ word c)

-- commands, one behind another
abbrev joined : List (List ℕ) → List ℕ
joined [] = []
joined (b ∷ l) = b ++ joined l

-- what an import gives with room for k bytes more than it needs
abbrev fills : List ℕ → List ℕ → Type 0
fills w B = Import.import_text w (replicate (length B) 7 ++ (1 ∷ 2 ∷ [])) ≡ record { number = 0; place = 0; size = length B; buffer = B ++ (1 ∷ 2 ∷ []) }

abbrev pond : List ℕ
pond =
    ascii
    "site m=1 n=0 A=2 W=1 name 2 \"a\"\"b\" reward 1 = else : 0 next 1 L1 = else : L1 reward 2 = L1 >= 10 : 50 ; else : -1 next 2 L1 = L1 < 10 : L1 ; else : L1 - 10"

-- what it becomes, command by command
abbrev pond_model : List (List ℕ)
pond_model =
    (0x02 ∷ 1 ∷ 0 ∷ 2 ∷ 0 ∷ 1 ∷ []) ∷ (0x30 ∷ 2 ∷ 0 ∷ ascii "a\"b             ") ∷ (0x10 ∷ linear₁ (pos 0) (pos 0)) ∷ (0x20 ∷ 1 ∷ 0 ∷ [])
    ∷ (0x10 ∷ linear₁ (pos 1) (pos 0)) ∷ (0x22 ∷ 1 ∷ 0 ∷ 1 ∷ []) ∷ (0x10 ∷ linear₁ (pos 0) (pos 50)) ∷ (0x10 ∷ linear₁ (pos 0) (negsuc 0))
    ∷ (0x12 ∷ linear₁ (negsuc 0) (pos 10)) ∷ (0x20 ∷ 2 ∷ 0 ∷ []) ∷ (0x10 ∷ linear₁ (pos 1) (negsuc 9)) ∷ (0x10 ∷ linear₁ (pos 1) (pos 0))
    ∷ (0x12 ∷ linear₁ (negsuc 0) (pos 10)) ∷ (0x22 ∷ 2 ∷ 0 ∷ 1 ∷ []) ∷ (0xff ∷ []) ∷ []

pub pond_bytes : fills pond (joined pond_model)
unfolding definitions
pond_bytes = refl

abbrev logic : List ℕ
logic =
    ascii
    "site m=1 n=2 A=1 W=7 reward 1 = !C1 & 2*(L1-3) > 5 | (C2) : forbidden ; else : (1+2)*L1*4 chance 1 N1=else:7 chance 1 N2=else:0 next 1 L1=N2:1;else:L1 end = L1<=1:2;else:0"

abbrev logic_model : List (List ℕ)
logic_model =
    (0x02 ∷ 1 ∷ 2 ∷ 1 ∷ 0 ∷ 7 ∷ []) ∷ (0x13 ∷ []) ∷ (0x10 ∷ linear₁ (pos 12) (pos 0)) ∷ (0x11 ∷ 2 ∷ []) ∷ (0x13 ∷ []) ∷ (0x10 ∷ linear₁ (pos 12) (pos 0))
    ∷ (0x11 ∷ 2 ∷ []) ∷ (0x13 ∷ []) ∷ (0x12 ∷ linear₁ (pos 2) (negsuc 10)) ∷ (0x11 ∷ 1 ∷ []) ∷ (0x20 ∷ 1 ∷ 0 ∷ []) ∷ (0x10 ∷ linear₁ (pos 0) (pos 7))
    ∷ (0x21 ∷ 1 ∷ 0 ∷ 1 ∷ []) ∷ (0x10 ∷ linear₁ (pos 0) (pos 0)) ∷ (0x21 ∷ 1 ∷ 0 ∷ 2 ∷ []) ∷ (0x10 ∷ linear₁ (pos 0) (pos 1))
    ∷ (0x10 ∷ linear₁ (pos 1) (pos 0)) ∷ (0x11 ∷ 6 ∷ []) ∷ (0x22 ∷ 1 ∷ 0 ∷ 1 ∷ []) ∷ (0x10 ∷ linear₁ (pos 0) (pos 2)) ∷ (0x10 ∷ linear₁ (pos 0) (pos 0))
    ∷ (0x12 ∷ linear₁ (pos 1) (negsuc 0)) ∷ (0x23 ∷ []) ∷ (0xff ∷ []) ∷ []

pub logic_bytes : fills logic (joined logic_model)
unfolding definitions
logic_bytes = refl

-- number and place, the buffer as it was
abbrev refuses : List ℕ → ℕ → ℕ → ℕ → Bool
refuses w room k p = let o = Import.import_text w (replicate room 7) in eqb o.number k && (eqb o.place p && eqb o.size 0)

-- a setting beyond its operand: the model's 4
pub refused_1 : T (refuses (ascii "site m=257 n=0 A=1 W=1") 0 4 0)
unfolding definitions
refused_1 = tt

-- 2147483648 is itself beyond 32 bits
pub refused_2 : T (refuses (ascii "site m=1 n=0 A=1 W=1 end = else : 2147483648") 0 25 0)
unfolding definitions
refused_2 = tt

-- -2147483648 so written is a number; the model lacks the reward
pub refused_3 : T (refuses (ascii "site m=1 n=0 A=1 W=1 end = else : -2147483647 - 1") 0 7 44)
unfolding definitions
refused_3 = tt

-- coefficients that cancel: the model's 4, at that command
pub refused_4 : T (refuses (ascii "site m=1 n=0 A=1 W=1 end = 1 <= 2 : 0 ; else : 0") 0 4 80)
unfolding definitions
refused_4 = tt

-- outside the grammar, before 25: at the second 0
pub refused_5 : T (refuses (ascii "site m=2147483648 n=0 A=1 W=1 end = else : 0 0") 0 24 45)
unfolding definitions
refused_5 = tt

-- one byte short
pub refused_6 : T (refuses (ascii "site m=1 n=0 A=1 W=1 reward 1 = else : 0 next 1 L1 = else : L1") 87 17 0)
unfolding definitions
refused_6 = tt

-- the empty text
pub refused_7 : T (refuses [] 0 24 0)
unfolding definitions
refused_7 = tt
