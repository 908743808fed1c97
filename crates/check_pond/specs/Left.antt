-- What a row leaves whose line is not written: the line comes behind the operation, so the tables are as that left them.
use Rattle.std.specs.Prelude.{List, ℕ, ℤ}
use Rattle.solve_operation.specs.Operation.{Standing, Operated}
use Rattle.solve_operation.specs.declared.Rule.{Rule}
use Rattle.solve_operation.specs.declared.Run.{Run}

-- one operation, of whatever rule and place, on a table of n nodes with its roots
pub record OperatedOnce (cap p : ℕ) (l : List ℤ) (n : ℕ) (R : List ℕ) (held : ℕ) (l' : List ℤ) (w' R' : List ℕ) : Type 0 where
  pub to : ℕ
  pub rule : Rule
  pub made : Run
  pub operated : Operated cap p l n R held to rule l' w' R' made

-- one operation on tables that stood
pub record LeftMidway (cap : ℕ) (l' : List ℤ) (w' R' : List ℕ) : Type 0 where
  pub peak : ℕ
  pub nodes : List ℤ
  pub work : List ℕ
  pub count : ℕ
  pub roots : List ℕ
  pub held : ℕ
  pub standing : Standing cap nodes work count roots held
  pub last : OperatedOnce cap peak nodes count roots held l' w' R'
