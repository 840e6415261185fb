-- `requested` meets its contract: the numbers of a question are the list's, and it leaves the memory as it was.
use Rattle.std.proofs.Common.{refl}
use Rattle.rules.specs.Queries.{RowsInUse, Registered, NextId}
use Rattle.rules.specs.Steps.{Ask}
use Rattle.rules.specs.Questions.{AskRegistry}
use Rattle.console_operations.proofs.Laws.{one_told}
use Rattle.console_operations.proofs.requested.Goals as goal

pub returns-in-Fits : goal.returns-in-Fits
returns-in-Fits c = rw (c.in-Fits.is, ← c.nth-a.ensures, ← c.nth-b.ensures) (c.vaskelbi_fits.ensures, refl)

pub returns-in-Child : goal.returns-in-Child
returns-in-Child c = rw (c.in-Child.is, ← c.nth-a.ensures) (c.vaskelbi_child.ensures, refl)

pub returns-in-Read : goal.returns-in-Read
returns-in-Read c = rw (c.in-Read.is, ← c.nth-a.ensures, ← c.nth-b.ensures, ← c.nth-c.ensures) (c.vaskelbi_read.ensures, refl)

pub returns-in-Visible : goal.returns-in-Visible
returns-in-Visible c = rw (c.in-Visible.is, ← c.nth-a.ensures, ← c.nth-b.ensures) (c.vaskelbi_visible.ensures, refl)

pub returns-in-Missing : goal.returns-in-Missing
returns-in-Missing c = rw (c.in-Missing.is, ← c.nth-a.ensures) (c.vaskelbi_missing.ensures, refl)

pub returns-in-Matches : goal.returns-in-Matches
returns-in-Matches c = rw (c.in-Matches.is, ← c.nth-a.ensures, ← c.rest.ensures) (c.vaskelbi_matches.ensures, refl)

pub returns-in-Declares : goal.returns-in-Declares
returns-in-Declares c = rw (c.in-Declares.is, ← c.nth-a.ensures, ← c.nth-b.ensures, ← c.nth-c.ensures) (c.vaskelbi_declares.ensures, refl)

pub returns-in-Lookup : goal.returns-in-Lookup
returns-in-Lookup c = rw (c.in-Lookup.is, ← c.nth-a.ensures, ← c.nth-b.ensures) (c.vaskelbi_lookup.ensures, refl)

pub returns-in-Resolve : goal.returns-in-Resolve
returns-in-Resolve c = rw (c.in-Resolve.is, ← c.nth-a.ensures, ← c.rest-in-Resolve.ensures) (c.vaskelbi_resolve.ensures, refl)

pub returns-in-Edition : goal.returns-in-Edition
returns-in-Edition c = rw (c.in-Edition.is, ← c.nth-a.ensures) (c.vaskelbi_edition.ensures, refl)

pub returns-in-Rows : goal.returns-in-Rows
returns-in-Rows c = rw c.in-Rows.is
    (one_told c.args.m.now c.args.out.now _ _ (Ask (AskRegistry RowsInUse)) _ c.vaskelbi_rows.ensures c.one.ensures.0 c.one.ensures.1, refl)

pub returns-in-Count : goal.returns-in-Count
returns-in-Count c = rw c.in-Count.is
    (one_told c.args.m.now c.args.out.now _ _ (Ask (AskRegistry Registered)) _ c.vaskelbi_count.ensures c.one-in-Count.ensures.0 c.one-in-Count.ensures.1, refl)

pub returns-in-Next : goal.returns-in-Next
returns-in-Next c = rw c.in-Next.is
    (one_told c.args.m.now c.args.out.now _ _ (Ask (AskRegistry NextId)) _ c.vaskelbi_next.ensures c.one-in-Next.ensures.0 c.one-in-Next.ensures.1, refl)
