-- Numbers at the edge of 32 bits, computed.
use Rattle.std.specs.Prelude.{Bool, ◌&&◌, not, ◌≡◌, refl, ℕ, T, negsuc}
use Rattle.theory.specs.Diagram.{no_coeffs, ◌⊞◌, ◌⊟◌, ◌⊠◌, add_list, scale_list}
use Rattle.theory.specs.Plain.{in_32_bits}
use Rattle.import_grammar.specs.Grammar.{none, Digits, one, also, d0, d1, d2, d3, d4, d5, d6, d7, d8, i1, Op, lt, le, gt, ge, adds, takes}
use Rattle.import_grammar.specs.Grammar.{number, kbracket, ConstTerm, kfactor, ktimes, kterm, kneg, kplus, vfactor, level, vterm, Sum}
use Rattle.import_grammar.specs.Grammar.{constant, varying, Atom, compare, Setting, setting, head, worth, end, start, closed, Text, entire, deepest}
use Rattle.import_numbers.specs.Numbers.{digits_value, linear_of, kfactor_linear, vfactor_linear, kfactor_numbers, vfactor_numbers, sum_numbers}
use Rattle.import_numbers.specs.Numbers.{atom_numbers, result_numbers, setting_numbers, before_numbers, numbers, all_within, beyond}
use Rattle.import_numbers.specs.Numbers.{constant_linear}

-- 2147483647 and 2147483648
most : Digits
most = also (also (also (also (also (also (also (also (also (one d2) d1) d4) d7) d4) d8) d3) d6) d4) d7

one_more : Digits
one_more = also (also (also (also (also (also (also (also (also (one d2) d1) d4) d7) d4) d8) d3) d6) d4) d8

digits : {n : ℕ} → Digits → ConstTerm n
digits ds = kfactor (number none ds)

-- 2147483647 + 1 - 1
over_and_back : Sum deepest
over_and_back = constant (kplus (kplus (kterm (digits most)) none adds (digits (one d1))) none takes (digits (one d1)))

-- -2147483647 - 1
least : Sum deepest
least = constant (kplus (kneg none (digits most)) none takes (digits (one d1)))

-- 2 * (-3)
product : Sum deepest
product = constant (kterm (ktimes (digits (one d2)) none (kbracket none (kneg none (digits (one d3))) none)))

-- -2 * 3: the minus is the whole term's
negated : Sum deepest
negated = constant (kneg none (ktimes (digits (one d2)) none (number none (one d3))))

-- -65536 * 32768: the product is 2³¹ before the minus
half : Digits
half = also (also (also (also (one d6) d5) d5) d3) d6

other : Digits
other = also (also (also (also (one d3) d2) d7) d6) d8

whole_term : Sum deepest
whole_term = constant (kneg none (ktimes (digits half) none (number none other)))

-- (-65536) * 32768
in_brackets : Sum deepest
in_brackets = constant (kterm (ktimes (kfactor (kbracket none (kneg none (digits half)) none)) none (number none other)))

-- 65536 * 32768
too_much : Sum deepest
too_much = constant (kterm (ktimes (digits half) none (number none other)))

-- L1
level1 : Sum deepest
level1 = varying (vterm (vfactor (level none i1)))

-- L1 op -2147483647 - 1
against : Op → Atom deepest
against op = compare level1 none op least

set : Digits → Setting
set ds = setting none none none ds

-- site m=.. n=0 A=1 W=1 end = else : ..
text : Digits → Sum deepest → Text
text ds s = entire (closed (start (end (head none (set ds) (set (one d0)) (set (one d1)) (set (one d1))) none none)) none none (worth s)) none

fits : Sum deepest → Bool
fits s = all_within (sum_numbers deepest s)

table : T (not (fits over_and_back) && (fits least && (not (fits (constant (kterm (digits one_more)))) && (fits (constant (kterm (digits most))) && (fits product && fits negated)))))
unfolding fits over_and_back least product negated digits most one_more all_within in_32_bits sum_numbers kfactor_numbers vfactor_numbers kfactor_linear vfactor_linear digits_value ◌⊞◌ ◌⊟◌ ◌⊠◌ add_list scale_list no_coeffs
table = tt

products : T (not (fits whole_term) && (fits in_brackets && not (fits too_much)))
unfolding fits whole_term in_brackets too_much half other digits all_within in_32_bits sum_numbers kfactor_numbers vfactor_numbers kfactor_linear vfactor_linear digits_value ◌⊞◌ ◌⊟◌ ◌⊠◌ add_list scale_list no_coeffs
products = tt

-- "right less left for < and >=": 2³¹ more than L1 is beyond, 2³¹ less is not
comparisons : T (not (all_within (atom_numbers (against le))) && (not (all_within (atom_numbers (against gt))) && (all_within (atom_numbers (against lt)) && all_within (atom_numbers (against ge)))))
unfolding against level1 least digits most all_within in_32_bits atom_numbers sum_numbers linear_of kfactor_numbers vfactor_numbers kfactor_linear vfactor_linear digits_value ◌⊞◌ ◌⊟◌ ◌⊠◌ add_list scale_list no_coeffs
comparisons = tt

six : linear_of deepest product ≡ constant_linear (negsuc 5)
unfolding product digits linear_of kfactor_linear digits_value ◌⊠◌ scale_list no_coeffs
six = refl

six' : linear_of deepest negated ≡ constant_linear (negsuc 5)
unfolding negated digits linear_of kfactor_linear digits_value ◌⊠◌ scale_list no_coeffs
six' = refl

-- "written": a number of the site too
texts : T (beyond (text one_more product) && (not (beyond (text most least)) && beyond (text most over_and_back)))
unfolding text set product least over_and_back digits most one_more beyond numbers before_numbers result_numbers setting_numbers all_within in_32_bits
    sum_numbers kfactor_numbers vfactor_numbers kfactor_linear vfactor_linear digits_value ◌⊞◌ ◌⊟◌ ◌⊠◌ add_list scale_list no_coeffs
texts = tt
