-- `whole_wide::scaled_sum` meets its contract: where a step has no result, the whole lies outside of two words.
use Rattle.std.proofs.Common.{◌∙◌, arith, rules}
use Rattle.whole_wide.proofs.Powers.{summand_out, sum_out, total_out}
use Rattle.whole_wide.proofs.scaled_sum.Goals as goal

pub returns-in_err-p : goal.returns-in_err-p
returns-in_err-p c = let a = c.args in
    c.from_residual.ensures ∙ summand_out a.x a.y a.w a.k a.c c.requires (search rules) (omega arith) c.from_words.ensures c.in_err-p.ensures

pub returns-in_err-s : goal.returns-in_err-s
returns-in_err-s c = let a = c.args in
    c.from_residual-in_err-s.ensures ∙ sum_out a.x a.y a.w a.k a.c c.requires (search rules) (omega arith) c.from_words.ensures c.from_words-2.ensures c.in_ok-p.ensures c.in_err-s.ensures

pub returns-in_err-t : goal.returns-in_err-t
returns-in_err-t c = let a = c.args in
    c.from_residual-in_err-t.ensures ∙ total_out a.x a.y a.w a.k a.c c.requires (search rules) (omega arith) c.from_words.ensures c.from_words-2.ensures c.in_ok-p.ensures c.in_ok-s.ensures c.in_err-t.ensures
