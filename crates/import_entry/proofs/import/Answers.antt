-- `import_entry::import` meets its contract.
use mathlib.Core.Path.{◌∙◌}
use Prim.Native.Nat.{ℕ}
use lib.ListN.{length-replicate}
use Rattle.import_model.specs.Import.{text_most}
use Rattle.import_deliver.proofs.Call.{refused_as}
use Rattle.import_judge.proofs.laws.Refused.{refused_so, sound_so}
use Rattle.model.specs.Answers.{shown}
use borrow.Author.Rules.{rules}
use Rattle.import_entry.proofs.import.Goals as goal

pub returns-then-v-ne0 : goal.returns-then-v-ne0
returns-then-v-ne0 c = refused_as c.refused.result _ _ c.args.buffer.now c.refused.ensures ∙ refused_so c.args.buffer.now c.args.text.now (shown c.judge-v.result) c.judge-v.ensures c.if-v-ne0.true

pub emitted-requires : goal.emitted-requires
emitted-requires c = (sound_so c.args.text.now (shown c.judge-v.result) c.judge-v.ensures c.if-v-ne0.false, length-replicate {A = ℕ} text_most 0)

pub returns : goal.returns
returns c = c.emitted.ensures
