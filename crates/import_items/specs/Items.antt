-- Steps in the site, items up to their cases, names and words.
use Rattle.std.specs.Prelude.{Bool, true, ℕ, ◌-◌, eqb, ltb}
use Rattle.import_grammar.specs.Grammar.{if, deepest}
use Rattle.import_state.specs.declared.Side.{Side}
use Rattle.import_state.specs.declared.Setting.{Setting}
use Rattle.import_state.specs.declared.Setting.TheVariants.{Levels, Conditions, Actions, Weights}
use Rattle.import_state.specs.declared.Kind.{Kind}
use Rattle.import_state.specs.declared.Kind.TheVariants as kinds
use Rattle.import_state.specs.declared.Place.TheVariants.{Site, Equals, Set, Action, Given, Opener, Quoted, Atom, Otherwise, Forbade}
use Rattle.import_state.specs.declared.Token.TheVariants.{Word, Forbidden, Name, Chance, Next}
use Rattle.import_state.specs.declared.State.{State}
use Rattle.import_state.specs.declared.State.TheVariants.{Dead, At, In}
use Rattle.import_state.specs.Bytes.{name_chars, digit, plain, letter, forbidden_letter}
use Rattle.import_cases.specs.Cases.{item}

-- m, n, A and W
unfoldable pub setting_letter : Setting → ℕ
setting_letter Levels = 109
setting_letter Conditions = 110
setting_letter Actions = 65
setting_letter Weights = 87

-- a setting's letter is expected
unfoldable pub on_site : Setting → ℕ → State
on_site h k = if (eqb k (setting_letter h)) (At (Equals h)) Dead

-- after a setting: the next one, or an item
unfoldable pub settled : Setting → ℕ → State
settled Levels k = on_site Conditions k
settled Conditions k = on_site Actions k
settled Actions k = on_site Weights k
settled Weights k = item k

-- after a setting's number so far
unfoldable pub on_set : Setting → Bool → ℕ → State
on_set h m k = if (digit k) (if m (At (Set h true)) Dead) (settled h k)

-- after an item's number
unfoldable pub opened : Kind → ℕ → State
opened kinds.Reward k = if (eqb k 61) (At (Atom deepest deepest true)) Dead
opened kinds.Chance k = if (eqb k 78) (In Chance) Dead
opened kinds.Next k = if (eqb k 76) (In Next) Dead
opened kinds.Name k = if (eqb k 34) (In (Name name_chars)) Dead

-- after an item's number so far
unfoldable pub on_given : Kind → Bool → ℕ → State
on_given h m k = if (digit k) (if m (At (Given h true)) Dead) (opened h k)

-- behind a name: a second quotation mark right behind the first is a character
unfoldable pub on_quoted : ℕ → Bool → ℕ → State
on_quoted n m k = if (eqb k 34) (if (ltb 0 n) (if m (In (Name (n - 1))) Dead) Dead) (item k)

-- in a name that may have n more characters
unfoldable pub on_name : ℕ → ℕ → State
on_name n k = if (eqb k 34) (At (Quoted n true)) (if (ltb 0 n) (if (plain k) (In (Name (n - 1))) Dead) Dead)

-- after a letter of a word: what the word begins, or the next letter
unfoldable pub worded : ℕ → State
worded n =
    if (eqb n 0) Dead
    (if (eqb n 1) (At (Site Levels))
    (if (eqb n 4) (At (Action kinds.Reward))
    (if (eqb n 9) (At (Action kinds.Chance))
    (if (eqb n 14) (At Opener)
    (if (eqb n 16) (At (Action kinds.Next))
    (if (eqb n 18) (At (Action kinds.Name))
    (if (eqb n 20) (At Otherwise) (In (Word (n - 1))))))))))

-- in a word
unfoldable pub on_word : ℕ → ℕ → State
on_word n k = if (eqb k (letter n)) (worded n) Dead

-- in forbidden
unfoldable pub on_forbidden : Side → ℕ → ℕ → State
on_forbidden d n k = if (eqb k (forbidden_letter n)) (if (ltb 1 n) (In (Forbidden d (n - 1))) (At (Forbade d))) Dead

-- next and name begin alike
unfoldable pub on_next_or_name : ℕ → State
on_next_or_name k = if (eqb k 101) (In (Word 17)) (if (eqb k 97) (In (Word 19)) Dead)
