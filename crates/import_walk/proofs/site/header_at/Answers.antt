use mathlib.Core.Path.{refl}
use Rattle.import_walk.proofs.Joined.{site_joined}
use Rattle.import_walk.proofs.site.header_at.Goals as goal

pub returns : goal.returns
returns c = site_joined _ _ _ _ _ _ _ c.setting_at-m.ensures c.setting_at-n.ensures c.setting_at-a.ensures c.setting_at-w.ensures refl refl refl refl refl
