-- `import_emit::items::put_part` meets its contract. The kind that is read decides whether the part is a name, in every reading.
use borrow.Author.Rules.{rules}
use Rattle.import_emit.proofs.Part.{further_on, action_small, item_begins, item_puts, item_on, name_puts, name_on}
use Rattle.import_emit.proofs.items.put_part.Goals as goal

pub put_named-wrote-requires : goal.put_named-wrote-requires
put_named-wrote-requires c = let a = c.opening_at-o.ensures in
    (record { action = action_small _ _ _ a; room = c.requires.lent.room }, a.next.stands.within)

pub returns-then-o-eq-NAME : goal.returns-then-o-eq-NAME
returns-then-o-eq-NAME c = let a = c.opening_at-o.ensures in
    let b = c.end_of_name-next.ensures in
    let p = c.put_named-wrote.ensures in
    let k = c.if-o-eq-NAME.true in
    record { same = p.same; further = further_on a b; put = name_puts _ _ _ a k _ b p; on = name_on _ _ _ a k _ b }

pub put_item-wrote-requires : goal.put_item-wrote-requires
put_item-wrote-requires c = let a = c.opening_at-o.ensures in
    let p = c.requires in
    record { action = action_small _ _ _ a; begins = item_begins _ _ _ a c.if-o-eq-NAME.false _ _ _ p.lent p.part p.parts p.spaces p.comes }

pub returns : goal.returns
returns c = let a = c.opening_at-o.ensures in
    let b = c.end_of_item-next.ensures in
    let p = c.put_item-wrote.ensures in
    let k = c.if-o-eq-NAME.false in
    record { same = p.same; further = further_on a b; put = item_puts _ _ _ a k _ b p; on = item_on _ _ _ a k _ b }
