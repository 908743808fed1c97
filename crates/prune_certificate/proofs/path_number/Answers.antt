-- `prune_certificate::path_number` meets its contract: one law for each way out, in the order of `path_number`: no turn, no fit, another count, a
-- negative multiplier, and then whether the sum contradicts, which may be asked as the path fits and counts right.
use mathlib.Core.Path.{sym, ◌∙◌}
use Rattle.whole.specs.Cases.{from_true}
use Rattle.prune_paths.specs.Prune.{diagram_at}
use Rattle.prune_certificate.proofs.Answers.{no_turns, no_fit, no_count, fit_is, count_is, a_negative, accepted, not_proved}
use Rattle.prune_certificate.proofs.path_number.Goals as goal

pub returns-then-turns-eq0 : goal.returns-then-turns-eq0
returns-then-turns-eq0 c = no_turns c.args.turns.now (diagram_at c.args.nodes.now c.args.root) c.args.ks.now c.if-turns-eq0.true

pub returns-then-n-eq0 : goal.returns-then-n-eq0
returns-then-n-eq0 c = no_fit c.args.turns.now (diagram_at c.args.nodes.now c.args.root) c.args.ks.now c.shape-n.result c.shape-n.ensures c.if-n-eq0.true

pub returns-then-n-ks : goal.returns-then-n-ks
returns-then-n-ks c = no_count c.args.turns.now (diagram_at c.args.nodes.now c.args.root) c.args.ks.now c.shape-n.result c.shape-n.ensures c.if-n-eq0.false c.if-n-ks.true

pub returns-then-not-none_negative : goal.returns-then-not-none_negative
returns-then-not-none_negative c = a_negative c.args.turns.now (diagram_at c.args.nodes.now c.args.root) c.args.ks.now c.shape-n.result
    c.shape-n.ensures c.if-turns-eq0.false c.if-n-eq0.false c.if-n-ks.false c.none_negative.result
    c.none_negative.ensures c.if-not-none_negative.true

pub contradicts-requires : goal.contradicts-requires
contradicts-requires c = let F = diagram_at c.args.nodes.now c.args.root in
    record {
      node = c.requires;
      fit = fit_is c.args.turns.now F c.args.ks.now c.shape-n.result c.shape-n.ensures c.if-turns-eq0.false c.if-n-eq0.false c.if-n-ks.false;
      count = count_is c.args.turns.now F c.args.ks.now c.shape-n.result c.shape-n.ensures c.if-turns-eq0.false c.if-n-eq0.false c.if-n-ks.false;
      signs = from_true (sym c.none_negative.ensures ∙ c.if-not-none_negative.false);
    }

pub returns-then-contradicts : goal.returns-then-contradicts
returns-then-contradicts c = accepted c.args.turns.now (diagram_at c.args.nodes.now c.args.root) c.args.ks.now c.shape-n.result c.shape-n.ensures
    c.if-turns-eq0.false c.if-n-eq0.false c.if-n-ks.false c.none_negative.result c.none_negative.ensures
    c.if-not-none_negative.false c.contradicts.result c.contradicts.ensures c.if-contradicts.true

pub returns-else-contradicts : goal.returns-else-contradicts
returns-else-contradicts c = not_proved c.args.turns.now (diagram_at c.args.nodes.now c.args.root) c.args.ks.now c.shape-n.result
    c.shape-n.ensures c.if-turns-eq0.false c.if-n-eq0.false c.if-n-ks.false c.none_negative.result
    c.none_negative.ensures c.if-not-none_negative.false c.contradicts.result c.contradicts.ensures c.if-contradicts.false
