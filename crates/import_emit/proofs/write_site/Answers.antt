-- `import_emit::write_site` meets its contract: a site's command has 6 bytes (`site_length`), so one test of the room decides whether it is put or
-- the answer is full; what the header reads is the text's own site (`site_is`), and the parts follow behind it (`site_on`).
use mathlib.Core.Path.{ap, refl}
use native.Mathlib.Omega.{arith}
use borrow.Author.Rules.{rules}
use Rattle.import_model.specs.Encode.{command_bytes}
use Rattle.import_write.proofs.Laws.{site_length}
use Rattle.import_emit.proofs.Puts.{fits, fits_not, put_as}
use Rattle.import_emit.proofs.Part.{site_small, site_on, site_is}
use Rattle.import_emit.proofs.write_site.Goals as goal

pub returns-then-out-lt-SITE : goal.returns-then-out-lt-SITE
returns-then-out-lt-SITE c = let s = c.header_at-s in
    let n = site_length s.result.levels s.result.conditions s.result.actions s.result.weights in
    record {
      same = refl;
      put = λ t. put_as (ap command_bytes (site_is _ _ s.ensures t)) (fits_not refl (omega (arith, n, c.if-out-lt-SITE.true)));
      on = site_on _ _ s.ensures;
    }

pub overflow_cast-s : goal.overflow_cast-s
overflow_cast-s c = let z = site_small _ _ _ c.header_at-s.ensures in omega arith

pub overflow_cast-s-2 : goal.overflow_cast-s-2
overflow_cast-s-2 c = let z = site_small _ _ _ c.header_at-s.ensures in omega arith

pub overflow_cast-s-3 : goal.overflow_cast-s-3
overflow_cast-s-3 c = let z = site_small _ _ _ c.header_at-s.ensures in omega arith

pub overflow_cast-s-4 : goal.overflow_cast-s-4
overflow_cast-s-4 c = let z = site_small _ _ _ c.header_at-s.ensures in omega arith

pub put_site-behind-requires : goal.put_site-behind-requires
put_site-behind-requires c = simp site_length (omega (arith, c.if-out-lt-SITE.false))

pub returns : goal.returns
returns c = let s = c.header_at-s.ensures in
    record {
      same = c.put_site-behind.auto.out;
      put = λ t. put_as (ap command_bytes (site_is _ _ s t)) (fits refl c.put_site-behind.ensures);
      on = site_on _ _ s;
    }
