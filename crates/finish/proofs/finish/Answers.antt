-- `finish::finish` meets its contract: the numbering is an inverse pair of lists, which `lay_out` requires; `finished` joins the contracts of the four calls.
use native.Mathlib.Omega.{arith}
use Rattle.finish.proofs.Whole.{inverse, wide, finished}
use Rattle.finish.proofs.finish.Goals as goal

pub stage_words-requires : goal.stage_words-requires
stage_words-requires c = (c.number_stages-c.ensures.state.works, c.requires.held.few, wide c.requires.held c.number_stages-c.ensures.state c.requires.roots, omega (arith, c.requires.few, c.requires.stages))

pub lay_out-requires : goal.lay_out-requires
lay_out-requires c = (inverse c.requires.held c.number_stages-c.ensures.state, c.requires.held.few, omega (arith, c.requires.held.words, c.rewrite.ensures.len))

pub returns : goal.returns
returns c = finished c.requires.held c.args.stages.now c.requires.roots c.requires.stages c.number_stages-c.ensures
    c.rewrite.ensures c.lay_out.ensures c.stage_words.ensures c.number_stages-c.auto.work
