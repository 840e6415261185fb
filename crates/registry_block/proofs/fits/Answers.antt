-- Its numbers, its life, its ports: each way out by the tests on the way.
use Rattle.std.proofs.Common.{arith, sym, ◌∙◌}
use Rattle.memory.specs.View.{view}
use Rattle.registry_block.specs.Lives.{counts_within}
use Rattle.registry_block.specs.Joins.{fits_counts, fits_life, fits_ports}
use Rattle.registry_block.proofs.fits.Goals as goal

pub returns-then-not-counts_fit : goal.returns-then-not-counts_fit
returns-then-not-counts_fit c =
    let a = c.args in
    fits_counts (view a.w.now) a.b.now a.lists.now a.from a.next a.rows
    (sym c.counts_fit.ensures ∙ c.if-not-counts_fit.true)

pub returns-then-not-life_fits : goal.returns-then-not-life_fits
returns-then-not-life_fits c =
    let a = c.args in
    fits_life (view a.w.now) a.b.now a.lists.now a.from a.next a.rows
    (sym c.counts_fit.ensures ∙ c.if-not-counts_fit.false) (sym c.life_fits.ensures ∙ c.if-not-life_fits.true)

pub overflow_mul-b : goal.overflow_mul-b
overflow_mul-b c =
    let a = c.args in
    omega (arith, (counts_within a.b.now a.from a.next a.rows (sym c.counts_fit.ensures ∙ c.if-not-counts_fit.false)).few_provisions)

pub overflow_add-b : goal.overflow_add-b
overflow_add-b c =
    let a = c.args in
    omega (arith, (counts_within a.b.now a.from a.next a.rows (sym c.counts_fit.ensures ∙ c.if-not-counts_fit.false)).few_provisions)

pub overflow_mul-b-2 : goal.overflow_mul-b-2
overflow_mul-b-2 c =
    let a = c.args in
    omega (arith, (counts_within a.b.now a.from a.next a.rows (sym c.counts_fit.ensures ∙ c.if-not-counts_fit.false)).few_realms)

pub overflow_add-b-2 : goal.overflow_add-b-2
overflow_add-b-2 c =
    let a = c.args in
    omega (arith, (counts_within a.b.now a.from a.next a.rows (sym c.counts_fit.ensures ∙ c.if-not-counts_fit.false)).few_realms)

pub overflow_mul-b-3 : goal.overflow_mul-b-3
overflow_mul-b-3 c =
    let a = c.args in
    omega (arith, (counts_within a.b.now a.from a.next a.rows (sym c.counts_fit.ensures ∙ c.if-not-counts_fit.false)).few_dependencies)

pub returns : goal.returns
returns c =
    let a = c.args in
    fits_ports (view a.w.now) a.b.now a.lists.now a.from a.next a.rows
    (sym c.counts_fit.ensures ∙ c.if-not-counts_fit.false) (sym c.life_fits.ensures ∙ c.if-not-life_fits.false)
    c.some_words-claimed.ensures c.parent_from.ensures c.port_at.ensures c.some_words.ensures
    c.some_words-2.ensures c.some_words-3.ensures c.ports_fit.ensures
