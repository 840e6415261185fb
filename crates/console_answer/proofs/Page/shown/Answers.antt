-- `shown` meets its contract: a taken decision is the slot's line by `ok`, and a refused one its number's by `no`.
use Rattle.console_answer.specs.Pages.{numbers_on}
use Rattle.console_answer.proofs.Page.shown.Goals as goal

pub returns-in-Err : goal.returns-in-Err
unfolding numbers_on
returns-in-Err g c = rw (c.in-Err.is, ← c.status.ensures) c.no.ensures
