-- `c_convert::answered` meets its contract: without room in `out` the answer is `short` of what judging with an empty buffer comes to, and nothing
-- is written (`conversion_short`); else the pair is put there (`text_whole`).
use Rattle.model_form.specs.Forms.{form_of}
use Rattle.convert_model.specs.Conversion.{conversion}
use Rattle.c_answers.proofs.Listed.{text_whole}
use Rattle.c_convert.proofs.Emptied.{conversion_short}
use Rattle.c_convert.proofs.answered.Goals as goal

pub returns-then-out-lt-ANSWER_BYTES : goal.returns-then-out-lt-ANSWER_BYTES
returns-then-out-lt-ANSWER_BYTES c = let a = c.args in
    conversion_short (form_of a.from) (form_of a.to) a.model.now a.buffer.now c.if-out-lt-ANSWER_BYTES.true c.convert-judged.ensures c.convert-judged.auto.buffer c.short.ensures

pub returns : goal.returns
returns c = let a = c.args in
    text_whole (conversion (form_of a.from) (form_of a.to) a.model.now a.buffer.now) a.buffer.now a.out.now c.if-out-lt-ANSWER_BYTES.false c.convert-done.ensures c.put_pair.ensures.0
