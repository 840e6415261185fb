-- The parts of a registration's line, each from its words. Assumes nothing.
use Rattle.std.specs.Prelude.{Option, Some, None, Ok, Err}
use Prim.Native.Nat.{ℕ, ◌≤◌}
use mathlib.Core.Path.{◌≡◌, refl, sym, ap, ◌∙◌}
use mathlib.Core.Bool.{true, false}
use mathlib.Core.List.{List}
use lib.ListN.{length}
use borrow.Author.Tests.{eq-eqb, ne_eqb}
use Rattle.rules.specs.Basics.{same_numbers}
use Rattle.text_form.specs.Bytes.{bytes}
use Rattle.text_form.specs.Words.{number_of}
use Rattle.console_words.specs.Words.{next_word, bytes_of}
use Rattle.console_words.specs.Runs.{Numbers, number_at, Gathered}
use Rattle.console_words.specs.declared.Span.{Span}
use Rattle.console_words.specs.declared.Run.{Run}
use Rattle.console_definition.specs.declared.Lists.{Lists}
use Rattle.console_definition.specs.declared.Number.{Number}
use Rattle.console_definition.specs.declared.Head.{Head}
use Rattle.console_definition.specs.Definitions.{word_from, past, parent_in, under, under_in, number_in, headed, five_numbers, head_in}
use Rattle.console_definition.specs.Definitions.{list_behind, next_list, three, realms_in, deps_in, provs_in, lists_in}
use Rattle.console_definition.specs.Found.{count_of, counted, counts, told, Behind, behind_missing, behind_listed, Three}

module _ (line : List ℕ) (from : ℕ) (w : Span) (e : w ≡ next_word line from) where
  pub number_is : (v : Option ℕ) → v ≡ number_of (bytes_of line w) → record { value = v; stop = w.stop } ≡ number_in line from
  unfolding number_in
  number_is v d =
      let f : v ≡ number_at line from = rw e at d in
      rw (e, f)

  pub nobody : same_numbers (bytes_of line w) (bytes "none") ≡ true → Ok (under w.stop None) ≡ under_in line from
  unfolding parent_in
  nobody d =
      let f : same_numbers (word_from line from) (bytes "none") ≡ true = rw e at d in
      rw (e, f)

  module _ (h : same_numbers (bytes_of line w) (bytes "none") ≡ false) where
    other : same_numbers (word_from line from) (bytes "none") ≡ false
    other = rw e at h

    pub parent_of : (n : ℕ) → Some n ≡ number_of (bytes_of line w) → Ok (under w.stop (Some n)) ≡ under_in line from
    unfolding parent_in
    parent_of n d =
        let f : Some n ≡ number_at line from = rw e at d in
        rw (e, other, ← f)

    pub no_parent : None ≡ number_of (bytes_of line w) → Err w.stop ≡ under_in line from
    unfolding parent_in
    no_parent d =
        let f : None ≡ number_at line from = rw e at d in
        rw (e, other, ← f)

  module _ (name before : List ℕ) where
    pub list_here : (after : List ℕ) (run : Run) → same_numbers (bytes_of line w) name ≡ true → Gathered line w.stop before after run
        → Behind (length line) (list_behind line from name) before after (Ok run)
    unfolding list_behind
    list_here after run h g =
        let f : same_numbers (word_from line from) name ≡ true = rw e at h in
        let k : Gathered line (past line from) before after run = rw e at g in
        rw f (record { list = λ i. Ok (record { count = k.count i; stop = k.stop i }); numbers = k.numbers })

    pub list_missing : same_numbers (bytes_of line w) name ≡ false
        → Behind (length line) (list_behind line from name) before before (Err (record { count = 0; stop = length line }))
    unfolding list_behind
    list_missing h =
        let f : same_numbers (word_from line from) name ≡ false = rw e at h in
        rw f (record { list = refl; numbers = refl })

module _ (line : List ℕ) (from : ℕ) (a b c d e : Number) (ea : a ≡ number_in line from) (eb : b ≡ number_in line a.stop) (ec : c ≡ number_in line b.stop)
    (ed : d ≡ number_in line c.stop) (ee : e ≡ number_in line d.stop) (h : Head) (eh : h ≡ headed a b c d e) where
  pub head_read : five_numbers a b c d e ≡ true → Ok h ≡ head_in line from
  unfolding head_in
  head_read f = rw (← ea, ← eb, ← ec, ← ed, ← ee, f, eh)

  pub head_not : five_numbers a b c d e ≡ false → Err h ≡ head_in line from
  unfolding head_in
  head_not f = rw (← ea, ← eb, ← ec, ← ed, ← ee, f, eh)

-- The list behind another is looked for where that stops.
behind_list : (size : ℕ) (line name : List ℕ) (l : Option Numbers) (r : Run) → Ok r ≡ counted size l → next_list line name l ≡ list_behind line r.stop name
behind_list size line name None r e = cc
behind_list size line name (Some x) r e =
    let k : r ≡ count_of x = cc in
    rw k

module _ (size : ℕ) where
  no_deps : (x y z : Option Numbers) (a : Run) → Ok a ≡ counted size x → y ≡ None → z ≡ None
      → Err (record { realms = a.count; deps = 0; provs = 0 }) ≡ told (three size x y z) (counts x y z)
  no_deps None y z a ea ey ez = cc
  no_deps (Some x) y z a ea ey ez =
      let k : a ≡ count_of x = cc in
      rw (k, ey, ez)

  no_provs : (x y z : Option Numbers) (a b : Run) → Ok a ≡ counted size x → Ok b ≡ counted size y → z ≡ None
      → Err (record { realms = a.count; deps = b.count; provs = 0 }) ≡ told (three size x y z) (counts x y z)
  no_provs None y z a b ea eb ez = cc
  no_provs (Some x) None z a b ea eb ez = cc
  no_provs (Some x) (Some y) z a b ea eb ez =
      let ka : a ≡ count_of x = cc in
      let kb : b ≡ count_of y = cc in
      rw (ka, kb, ez)

  module _ (a b c : Run) where
    abbrev all : Lists
    all = record { realms = a.count; deps = b.count; provs = c.count }

    more_behind : (x y z : Option Numbers) → Ok a ≡ counted size x → Ok b ≡ counted size y → Ok c ≡ counted size z
        → (c.stop ≡ size → ⊥) → Err all ≡ told (three size x y z) (counts x y z)
    more_behind None y z ea eb ec n = cc
    more_behind (Some x) None z ea eb ec n = cc
    more_behind (Some x) (Some y) None ea eb ec n = cc
    more_behind (Some x) (Some y) (Some z) ea eb ec n =
        let ka : a ≡ count_of x = cc in
        let kb : b ≡ count_of y = cc in
        let kc : c ≡ count_of z = cc in
        let s : c.stop ≡ z.stop = ap (λ (q : Run). q.stop) kc in
        rw (ne_eqb z.stop size (λ i. n (s ∙ i)), ka, kb, kc)

    all_three : (x y z : Option Numbers) → Ok a ≡ counted size x → Ok b ≡ counted size y → Ok c ≡ counted size z
        → c.stop ≡ size → Ok all ≡ told (three size x y z) (counts x y z)
    all_three None y z ea eb ec s = cc
    all_three (Some x) None z ea eb ec s = cc
    all_three (Some x) (Some y) None ea eb ec s = cc
    all_three (Some x) (Some y) (Some z) ea eb ec s =
        let ka : a ≡ count_of x = cc in
        let kb : b ≡ count_of y = cc in
        let kc : c ≡ count_of z = cc in
        let t : z.stop ≡ size = sym (ap (λ (q : Run). q.stop) kc) ∙ s in
        rw (ka, kb, kc, eq-eqb z.stop size t)

fit : (size : ℕ) (l : Option Numbers) (before after : List ℕ) (r : Run) → Behind size l before after (Ok r) → r.count ≤ length after
fit size l before after r h = (behind_listed size l before after r h).front.fits

module _ (line : List ℕ) (from : ℕ) (r r' d d' p p' : List ℕ) where
  pub no_first : (n : Run) → Behind (length line) (realms_in line from) r r' (Err n) → Three line from r r' d d p p (Err (record { realms = 0; deps = 0; provs = 0 }))
  unfolding lists_in
  no_first n h =
      let e : realms_in line from ≡ None = behind_missing _ (realms_in line from) r r' n h in
      record { found = rw e; realms = h.numbers; deps = rw e; provs = rw e; fits = tt }

  module _ (a : Run) (ha : Behind (length line) (realms_in line from) r r' (Ok a)) where
    deps_are : deps_in line from ≡ list_behind line a.stop (bytes "deps")
    deps_are = behind_list _ line (bytes "deps") (realms_in line from) a ha.list

    pub no_second : (n : Run) → Behind (length line) (list_behind line a.stop (bytes "deps")) d d' (Err n)
        → Three line from r r' d d' p p (Err (record { realms = a.count; deps = 0; provs = 0 }))
    unfolding lists_in
    no_second n h =
        let e : deps_in line from ≡ None = deps_are ∙ behind_missing _ _ d d' n h in
        record {
          found = no_deps (length line) (realms_in line from) (deps_in line from) (provs_in line from) a ha.list e (rw e);
          realms = ha.numbers;
          deps = rw deps_are h.numbers;
          provs = rw e;
          fits = tt;
        }

    module _ (b : Run) (hb : Behind (length line) (list_behind line a.stop (bytes "deps")) d d' (Ok b)) where
      second : Behind (length line) (deps_in line from) d d' (Ok b)
      second = rw deps_are hb

      provs_are : provs_in line from ≡ list_behind line b.stop (bytes "provs")
      provs_are = behind_list _ line (bytes "provs") (deps_in line from) b second.list

      pub no_third : (n : Run) → Behind (length line) (list_behind line b.stop (bytes "provs")) p p' (Err n)
          → Three line from r r' d d' p p' (Err (record { realms = a.count; deps = b.count; provs = 0 }))
      unfolding lists_in
      no_third n h =
          let e : provs_in line from ≡ None = provs_are ∙ behind_missing _ _ p p' n h in
          record {
            found = no_provs (length line) (realms_in line from) (deps_in line from) (provs_in line from) a b ha.list second.list e;
            realms = ha.numbers;
            deps = second.numbers;
            provs = rw provs_are h.numbers;
            fits = tt;
          }

      module _ (c : Run) (hc : Behind (length line) (list_behind line b.stop (bytes "provs")) p p' (Ok c)) where
        third : Behind (length line) (provs_in line from) p p' (Ok c)
        third = rw provs_are hc

        pub no_end : (c.stop ≡ length line → ⊥) → Three line from r r' d d' p p' (Err (record { realms = a.count; deps = b.count; provs = c.count }))
        unfolding lists_in
        no_end n =
            record {
              found = more_behind (length line) a b c (realms_in line from) (deps_in line from) (provs_in line from) ha.list second.list third.list n;
              realms = ha.numbers;
              deps = second.numbers;
              provs = third.numbers;
              fits = tt;
            }

        pub all_there : c.stop ≡ length line → Three line from r r' d d' p p' (Ok (record { realms = a.count; deps = b.count; provs = c.count }))
        unfolding lists_in
        all_there s =
            record {
              found = all_three (length line) a b c (realms_in line from) (deps_in line from) (provs_in line from) ha.list second.list third.list s;
              realms = ha.numbers;
              deps = second.numbers;
              provs = third.numbers;
              fits = (fit _ _ _ _ a ha, fit _ _ _ _ b second, fit _ _ _ _ c third);
            }
