-- `row_at` meets its contract: the code's rows are the table's.
use Rattle.console_names.proofs.Rows.{in_table, past_table}
use Rattle.console_names.proofs.row_at.Goals as goal

pub returns-then-place-lt-OPERATIONS : goal.returns-then-place-lt-OPERATIONS
returns-then-place-lt-OPERATIONS c = in_table c.args.place _ c.if-place-lt-OPERATIONS.true

pub returns : goal.returns
returns c = past_table c.args.place c.if-place-lt-OPERATIONS.false
