use Rattle.std.proofs.Common.{refl, sym, ◌∙◌}
use Rattle.capi_cluster.specs.Words.{rows_fit}
use Rattle.capi_cluster.proofs.Rows.{fit_more, unfit_rows, fit_all}
use Rattle.capi_cluster.proofs.words.rows_fit.Goals as goal

pub loop-k-init : goal.loop-k-init
unfolding rows_fit
loop-k-init c = refl

pub returns-then-not-row_fits : goal.returns-then-not-row_fits
returns-then-not-row_fits c =
    unfit_rows c.args.words.now c.loop-k.k c.loop-k-test.true (sym c.row_fits.ensures ∙ c.if-not-row_fits.true)

pub loop-k-preserved : goal.loop-k-preserved
loop-k-preserved c = fit_more c.args.words.now c.loop-k.k c.loop-k.invariant (sym c.row_fits.ensures ∙ c.if-not-row_fits.false)

pub returns : goal.returns
returns c = fit_all c.args.words.now c.loop-k.k c.loop-k-test.false c.loop-k.auto.k-end c.loop-k.invariant
