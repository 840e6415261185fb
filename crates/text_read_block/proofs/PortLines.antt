-- A list of ports, line by line: what holds after some lines, its start, one line more, a torn line, and the end. Then a realm list.
use Rattle.std.specs.Prelude.{Option, Some, None}
use Prim.Native.Nat.{ℕ, ◌+◌, ◌<◌}
use native.Mathlib.Omega.{arith}
use mathlib.Core.Path.{◌≡◌, refl, sym, ap, ◌∙◌, subst}
use mathlib.Core.List.{List, [], ◌∷◌, ◌++◌}
use lib.ListN.{length, length-append}
use Rattle.rules_types.specs.declared.Port.{Port}
use Rattle.rules_types.specs.declared.Edition.{Edition}
use Rattle.rules.specs.Holds.{edition_number, default_of}
use Rattle.rules.specs.Text.Values.{key_realm, edition_and_default}
use Rattle.text_form.specs.Bytes.{bytes}
use Rattle.text_form.specs.Forms.{Form, behind, ◌then◌, read_many}
use Rattle.text_form.specs.Lines.{list, number}
use Rattle.text_read_number.specs.Reads.{Reads}
use Rattle.text_read.specs.Ways.{then_torn, then_none, then_next, like_next}
use Rattle.text_read.specs.Lists.{many_none, many_more, line_torn, counted_torn, counted_next}
use Rattle.text_read_block.specs.Lists.{PortsRead, RealmsRead}
use Rattle.text_read_block.specs.Rows.{row_put, rows_put, rows_snoc}

pub record PortsSoFar (key t : List ℕ) (first : ℕ) (before : List ℕ) (row : ℕ) (after : List ℕ) (place i : ℕ) : Type 0 where
  pub ports : List Port
  pub reads : Reads (read_many (behind key key_realm) i) t first (Some (ports, place))
  pub count : i ≡ length ports
  pub stored : after ≡ rows_put before row ports

module _ (plural key t : List ℕ) (at : ℕ) (before : List ℕ) (row : ℕ) where
  abbrev lines : Form ℕ
  lines = behind plural number

  abbrev item : Form Port
  item = behind key key_realm

  -- the count is torn
  pub head_torn : (after : List ℕ) → Reads lines.read t at None → PortsRead plural key t at before row None after
  head_torn after x = counted_torn lines item x

  module _ {count first : ℕ} (head : Reads lines.read t at (Some (count, first))) where
    pub ports_start : PortsSoFar key t first before row before first 0
    unfolding rows_put
    ports_start = record { ports = []; reads = many_none item t first head.fits; count = refl; stored = refl }

    module _ {after : List ℕ} {place i : ℕ} (f : PortsSoFar key t first before row after place i) where
      pub ports_torn : (after' : List ℕ) → i < count → Reads item.read t place None → PortsRead plural key t at before row None after'
      ports_torn after' h x = counted_next lines item head (line_torn item i f.reads count h x)

      pub ports_more : {p : Port} {n : ℕ} → Reads item.read t place (Some (p, n))
          → PortsSoFar key t first before row (row_put after (row + i) p.key p.realm) n (i + 1)
      ports_more {p} x = record {
        ports = f.ports ++ p ∷ [];
        reads = many_more item i f.reads x;
        count = omega (arith, f.count, length-append f.ports (p ∷ []));
        stored =
            ap (λ (l : List ℕ). row_put l (row + i) p.key p.realm) f.stored
            ∙ ap (λ j. row_put (rows_put before row f.ports) (row + j) p.key p.realm) f.count
            ∙ sym (rows_snoc before row f.ports p);
      }

      pub ports_end : i ≡ count → PortsRead plural key t at before row (Some (count, place)) after
      ports_end k = record {
        ports = f.ports;
        reads = counted_next lines item head (subst (λ j. Reads (read_many item j) t first (Some (f.ports, place))) k f.reads);
        count = sym k ∙ f.count;
        stored = f.stored;
      }

-- Edition and default, and the rows behind them.
module _ (t : List ℕ) (at : ℕ) (before : List ℕ) where
  abbrev rows : Form (List Port)
  rows = list "realms" "realm" key_realm

  pub realms_torn : (after : List ℕ) → Reads edition_and_default.read t at None → RealmsRead t at before None after
  realms_torn after x =
      like_next (edition_and_default then rows) (λ (edition, rows). record { edition = edition; rows = rows }) (then_torn edition_and_default rows x)

  pub realms_read : {edition : Edition} {m : ℕ} (led after : List ℕ) (r : Option (ℕ × ℕ)) → Reads edition_and_default.read t at (Some (edition, m))
      → led ≡ row_put before 0 (edition_number edition) (default_of edition)
      → PortsRead (bytes "realms=") (bytes "realm=") t m led 1 r after → RealmsRead t at before r after
  unfolding rows_put
  realms_read led after None x f p =
      like_next (edition_and_default then rows) (λ (edition, rows). record { edition = edition; rows = rows }) (then_none edition_and_default rows x p)
  realms_read {edition} led after (Some (n, next)) x f p = record {
    list = record { edition = edition; rows = p.ports };
    reads =
        like_next (edition_and_default then rows) (λ (edition, rows). record { edition = edition; rows = rows })
        (then_next edition_and_default rows x p.reads);
    count = p.count;
    stored = p.stored ∙ ap (λ (l : List ℕ). rows_put l 1 p.ports) f;
  }
