-- Texts as they are read, as bytes.
use Rattle.std.specs.Prelude.{List, [], ◌∷◌, ℕ}
use Prim.Native.Char.{code}
use Prim.Native.String.{String, [] as no_text, ◌∷◌ as ◌then◌}

-- The bytes of ASCII characters, a byte each, before those that follow.
abbrev pub spelled : String → List ℕ → List ℕ
spelled no_text f = f
spelled (c then s) f = code c ∷ spelled s f

-- The bytes of a text.
unfoldable pub ascii : String → List ℕ
ascii s = spelled s []
