-- `load_model::store` meets its contract.
use Rattle.load_model.proofs.Places.{stored_yes, stored_no}
use Rattle.load_model.proofs.store.Goals as goal

pub returns-then-at-lt-LOADED_ROOTS : goal.returns-then-at-lt-LOADED_ROOTS
returns-then-at-lt-LOADED_ROOTS c = stored_yes c.args.roots.now c.args.at c.args.x c.if-at-lt-LOADED_ROOTS.true

pub returns-else-at-lt-LOADED_ROOTS : goal.returns-else-at-lt-LOADED_ROOTS
returns-else-at-lt-LOADED_ROOTS c = stored_no c.args.roots.now c.args.at c.args.x c.if-at-lt-LOADED_ROOTS.false
