-- The provisions, line by line: what holds after some lines, its start, one line more, a torn line, and the end.
use Rattle.std.specs.Prelude.{Option, Some, None}
use Prim.Native.Nat.{ℕ, ◌+◌, ◌^◌, ◌≤◌, ◌<◌}
use native.Mathlib.Omega.{arith}
use mathlib.Core.Path.{◌≡◌, refl, sym, ap, ◌∙◌, subst}
use mathlib.Core.Bool.{Bool, false}
use mathlib.Core.List.{List, [], ◌∷◌, ◌++◌, map-append}
use lib.Dec.{ltb}
use lib.ListN.{length, take, length-append, length-take, length-map}
use lib.Pow.{pow_mono}
use lib.Seq.{take_all, take-append-le}
use borrow.Author.Tests.{ltb-true, ltb-false}
use Rattle.rules.specs.Basics.{is_some, or_else, yes_no}
use Rattle.rules.specs.Limits.{max_provision_keys}
use Rattle.rules_types.specs.declared.Port.{Port}
use Rattle.rules.specs.Holds as holds
use Rattle.rules.specs.Text.Values.{key_realm_value}
use Rattle.rules_laws.specs.Laws.Tests.{by_test}
use Rattle.text_form.specs.Forms.{Form, read_many}
use Rattle.text_form.specs.Lines.{line, number}
use Rattle.text_read_number.specs.Reads.{Reads}
use Rattle.text_read.specs.Lists.{many_none, many_more, line_torn, counted_torn, counted_next}
use Rattle.memory_values.specs.Values.{mask_of, values_of}
use Rattle.memory_values.specs.Given.{mask_below, mask_none, mask_some, values_more}
use Rattle.text_read_block.specs.Lists.{ProvisionsRead, mask_with, ports_of}
use Rattle.text_read_block.specs.Rows.{row_put, rows_put, rows_snoc, one_put, all_put, all_snoc}
use Rattle.text_read_block.specs.Valued.{valued_of, valued_snoc, valued_most}

-- A mask of the first 15, with one provision more.
pub mask_room : (vs : List holds.Provision) → mask_of (take max_provision_keys vs) < 2 ^ 15
mask_room vs =
    let short : length (take max_provision_keys vs) ≤ 15 = omega (arith, length-take max_provision_keys vs) in
    omega (arith, mask_below (take max_provision_keys vs), pow_mono short)

one_bit : (vs : List holds.Provision) (q : Port) (o : Option ℕ) → length vs < max_provision_keys
    → mask_with (mask_of vs) (length vs) (is_some o) ≡ mask_of (vs ++ record { port = q; value = o } ∷ [])
unfolding mask_with
one_bit vs q None h = by_test (ltb (length vs) max_provision_keys) (λ y. rw y (sym (mask_none vs q))) (λ n. rw n (sym (mask_none vs q)))
one_bit vs q (Some x) h =
    by_test (ltb (length vs) max_provision_keys) (λ y. rw y (sym (mask_some vs q x)))
    (λ n. absurd (let l = ltb-false (length vs) max_provision_keys n in omega arith))

past : (m i : ℕ) (valued : Bool) → ltb i max_provision_keys ≡ false → mask_with m i valued ≡ m
unfolding mask_with
past m i valued n = rw n

pub mask_more : (vs : List holds.Provision) (v : holds.Provision)
    → mask_with (mask_of (take max_provision_keys vs)) (length vs) (is_some v.value) ≡ mask_of (take max_provision_keys (vs ++ v ∷ []))
mask_more vs v = by_test (ltb (length vs) max_provision_keys)
    (λ y.
    let h = ltb-true (length vs) max_provision_keys y in
    let all : take max_provision_keys vs ≡ vs = take_all max_provision_keys vs (omega arith) in
    let one : take max_provision_keys (vs ++ v ∷ []) ≡ vs ++ v ∷ [] =
    take_all max_provision_keys (vs ++ v ∷ []) (omega (arith, length-append vs (v ∷ []))) in
    rw (all, one) (one_bit vs v.port v.value h))
    (λ n.
    let h = ltb-false (length vs) max_provision_keys n in
    let same : take max_provision_keys (vs ++ v ∷ []) ≡ take max_provision_keys vs = take-append-le max_provision_keys vs (v ∷ []) (omega arith) in
    rw same (past (mask_of (take max_provision_keys vs)) (length vs) (is_some v.value) n))

pub record ProvisionsSoFar (t : List ℕ) (first : ℕ) (claims values claims' values' : List ℕ) (place i valued mask : ℕ) : Type 0 where
  pub provisions : List holds.Provision
  pub reads : Reads (read_many (line "prov" key_realm_value) i) t first (Some (provisions, place))
  pub count : i ≡ length provisions
  pub valued_so : valued ≡ valued_of provisions
  pub mask_so : mask ≡ mask_of (take max_provision_keys provisions)
  pub claims_stored : claims' ≡ rows_put claims 1 (ports_of provisions)
  pub values_stored : values' ≡ all_put values 0 (values_of provisions)

module _ (t : List ℕ) (at : ℕ) (claims values : List ℕ) where
  abbrev lines : Form ℕ
  lines = line "provs" number

  abbrev item : Form holds.Provision
  item = line "prov" key_realm_value

  -- the count is torn
  pub head_torn : (claims' values' : List ℕ) → Reads lines.read t at None → ProvisionsRead t at claims values None claims' values'
  head_torn claims' values' x = counted_torn lines item x

  module _ {count first : ℕ} (head : Reads lines.read t at (Some (count, first))) where
    pub provisions_start : ProvisionsSoFar t first claims values claims values first 0 0 0
    unfolding rows_put all_put
    provisions_start = record {
      provisions = [];
      reads = many_none item t first head.fits;
      count = refl;
      valued_so = refl;
      mask_so = refl;
      claims_stored = refl;
      values_stored = refl;
    }

    module _ {claims' values' : List ℕ} {place i valued mask : ℕ} (f : ProvisionsSoFar t first claims values claims' values' place i valued mask) where
      pub provisions_torn : (claims'' values'' : List ℕ) → i < count → Reads item.read t place None
          → ProvisionsRead t at claims values None claims'' values''
      provisions_torn claims'' values'' h x = counted_next lines item head (line_torn item i f.reads count h x)

      abbrev vs : List holds.Provision
      vs = f.provisions

      -- one line more
      module _ {p : Port} {o : Option ℕ} {n : ℕ} (x : Reads item.read t place (Some (record { port = p; value = o }, n))) where
        abbrev v : holds.Provision
        v = record { port = p; value = o }

        pub provisions_more : ProvisionsSoFar t first claims values (row_put claims' (i + 1) p.key p.realm) (one_put values' i (or_else o 0)) n (i + 1)
            (valued + yes_no (is_some o)) (mask_with mask i (is_some o))
        provisions_more =
            let j : i ≡ 0 + length (values_of vs) = omega (arith, f.count, length-map vs (λ (w : holds.Provision). or_else w.value 0)) in
            let k : i + 1 ≡ 1 + length (ports_of vs) = omega (arith, f.count, length-map vs (λ (w : holds.Provision). w.port)) in
            record {
              provisions = vs ++ v ∷ [];
              reads = many_more item i f.reads x;
              count = omega (arith, f.count, length-append vs (v ∷ []));
              valued_so = omega (arith, f.valued_so, valued_snoc vs v);
              mask_so =
                  ap (λ m. mask_with m i (is_some o)) f.mask_so
                  ∙ ap (λ l. mask_with (mask_of (take max_provision_keys vs)) l (is_some o)) f.count
                  ∙ mask_more vs v;
              claims_stored =
                  ap (λ (l : List ℕ). row_put l (i + 1) p.key p.realm) f.claims_stored
                  ∙ ap (λ l. row_put (rows_put claims 1 (ports_of vs)) l p.key p.realm) k
                  ∙ sym (rows_snoc claims 1 (ports_of vs) p)
                  ∙ ap (rows_put claims 1) (sym (map-append (λ (w : holds.Provision). w.port) vs (v ∷ [])));
              values_stored =
                  ap (λ (l : List ℕ). one_put l i (or_else o 0)) f.values_stored
                  ∙ ap (λ l. one_put (all_put values 0 (values_of vs)) l (or_else o 0)) j
                  ∙ sym (all_snoc values 0 (values_of vs) (or_else o 0))
                  ∙ ap (all_put values 0) (sym (values_more vs v));
            }

        -- A count of values is no more than the lines, and there is room for the next.
        pub valued_room : i < count → valued + yes_no (is_some o) ≤ count
        valued_room h =
            let m = valued_most (vs ++ v ∷ []) in
            omega (arith, m, f.valued_so, f.count, valued_snoc vs v, length-append vs (v ∷ []))

      pub provisions_end : i ≡ count
          → ProvisionsRead t at claims values (Some (record { count = count; valued = valued; mask = mask; next = place })) claims' values'
      provisions_end k = record {
        provisions = f.provisions;
        reads = counted_next lines item head (subst (λ j. Reads (read_many item j) t first (Some (f.provisions, place))) k f.reads);
        count = sym k ∙ f.count;
        valued = f.valued_so;
        mask = f.mask_so;
        claims_stored = f.claims_stored;
        values_stored = f.values_stored;
      }
