-- `import_entry::emitted` meets its contract: a model that does not fit the scratch bytes is longer than one may be and refused with 10
-- (`emitted_long`); else what stands in them is the whole model, and delivering it is the import (`emitted_whole`).
use mathlib.Core.Path.{refl, ◌∙◌, sym}
use lib.Seq.{length-take-le}
use Rattle.import_deliver.proofs.Call.{refused_as}
use Rattle.import_entry.proofs.Call.{emitted_long, emitted_fits, emitted_whole}
use borrow.Author.Rules.{rules}
use Rattle.import_entry.proofs.emitted.Goals as goal

pub returns-in_default : goal.returns-in_default
returns-in_default c = refused_as c.refused.result _ _ c.args.buffer.now c.refused.ensures
    ∙ emitted_long c.args.text.now c.args.buffer.now c.requires.0 c.requires.1 c.in_default.ensures refl

pub slice_bounds-deliver-end : goal.slice_bounds-deliver-end
slice_bounds-deliver-end c = emitted_fits c.args.text.now c.args.buffer.now c.requires.0 c.requires.1 c.in-Ok.ensures refl

pub slice_bounds-deliver-end-2 : goal.slice_bounds-deliver-end-2
slice_bounds-deliver-end-2 c = sym (length-take-le _ _ (emitted_fits c.args.text.now c.args.buffer.now c.requires.0 c.requires.1 c.in-Ok.ensures refl))

pub returns : goal.returns
returns c = c.deliver.ensures
    ∙ emitted_whole c.args.text.now c.args.buffer.now c.requires.0 c.requires.1 c.in-Ok.ensures refl
