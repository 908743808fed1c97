-- `c_import::import` meets its contract: without room in `out` the answer is `short` of what judging with an empty buffer comes to, and nothing
-- is written (`import_short`); else the pair is put there (`text_whole`).
use Rattle.import_model.specs.Import.{import_text}
use Rattle.c_answers.proofs.Listed.{text_whole}
use Rattle.c_import.proofs.Emptied.{import_short}
use borrow.Author.Rules.{rules}
use Rattle.c_import.proofs.import.Goals as goal

pub returns-then-out-lt-ANSWER_BYTES : goal.returns-then-out-lt-ANSWER_BYTES
returns-then-out-lt-ANSWER_BYTES c = let a = c.args in
    import_short a.text.now a.buffer.now c.if-out-lt-ANSWER_BYTES.true c.import-judged.ensures c.import-judged.auto.buffer c.short.ensures

pub returns : goal.returns
returns c = let a = c.args in
    text_whole (import_text a.text.now a.buffer.now) a.buffer.now a.out.now c.if-out-lt-ANSWER_BYTES.false c.import-made.ensures c.put_pair.ensures.0
