-- A whole text: its header and its plugins, and that it loads exactly if they all joined and what is asked of all at the end holds.
use Rattle.std.specs.Prelude.{ℕ, ◌≤◌, ◌<◌, true, false, ◌&&◌, length, Option, Some, None, Result, Err, ok_or}
use Rattle.std.proofs.Common.{arith, ◌∙◌}
use Rattle.std.proofs.Math.Path.{◌≡◌, refl, sym, ap, subst}
use Rattle.std.proofs.Math.Bool.{not}
use mathlib.Core.List.{List, [], ◌∷◌, map}
use borrow.Author.Tests.{le-leb, eq-eqb, ne_eqb}
use Rattle.rules.specs.Basics.{all, ◌⊃◌}
use Rattle.rules.specs.Limits.{max_plugins}
use Rattle.rules.specs.Holds.{Plugin, plugins, running}
use Rattle.rules.specs.Phases.{available}
use Rattle.rules.specs.Registration.{repeats}
use Rattle.rules.specs.Text.{Said, header, with_count, block, text, read_text}
use Rattle.rules.specs.Conditions.{claims_of, ports_differ, dependencies_served, no_cycles, loadable}
use Rattle.rules.specs.Load.{unqueued, loaded, opening, load}
use Rattle.rules.specs.Outcomes.{Refused, Accepted}
use Rattle.rules.specs.Refusals.{Refusal, BadText}
use Rattle.registry_cycles.specs.Hold.{all_hold}
use Rattle.registry_load.specs.Words.{leaves_load, Opens}
use Rattle.rules_load.specs.Joining.{behind_ids}
use Rattle.rules_load.specs.Joins.{joined_loadable, served_unqueued, cycles_unqueued, available_served}
use Rattle.rules_laws.specs.Laws.Tests.{by_test}
use Rattle.rules_laws.specs.Laws.Placed.{held_placed}
use Rattle.rules_load.specs.Laws.Unqueued.{claims_unqueued}
use Rattle.memory.specs.View.{view}
use Rattle.memory_load.specs.Loading.{words_of}
use Rattle.memory_load.proofs.SoFar.{so_far_words}
use Rattle.text_form.specs.Forms.{Read, found, torn, and_then, read_many, alone, ◌then◌}
use Rattle.text_form.proofs.Forms.{torn_found}
use Rattle.text_form.specs.Lines.{line, number}
use Rattle.text_read_number.specs.Reads.{read_from, read_at, Reads, from_then, read_on}
use Rattle.text_read.specs.Lists.{counted_next}
use Rattle.text_read.specs.Ways.{then_next, like_next, whole_all, whole_part, whole_torn}
use Rattle.registry_load.specs.declared.Header.{Header}
use Rattle.registry_load.specs.Plugins.{PluginsSoFar, Unfit}

-- Nothing that the text says loads.
abbrev pub Hopeless : List ℕ → Type 0
Hopeless t = (s : Said) → read_text t ≡ Some s → loadable s ≡ false

pub data TextRead (t : List ℕ) (d : ℕ) : Option ℕ → List ℕ → Type 0 where
  good : (s : Said) → read_text t ≡ Some s → loadable s ≡ true → TextRead t d (Some s.domain) (words_of (loaded d s))
  bad : (w : List ℕ) → Hopeless t → TextRead t d None w

no_text : (t : List ℕ) → read_text t ≡ None → Hopeless t
no_text t e s f = let z : ◌≡◌ {A = ℕ} 0 1 = cc in absurd (omega arith)

-- what a whole text reads
read_some : (t : List ℕ) (s : Said) → read_text t ≡ Some s → text.read t ≡ found s []
unfolding read_text
read_some t s = go (text.read t)
  where
    go : (r : Read Said) → alone r ≡ Some s → r ≡ found s []
    go (found a []) e = let i : a ≡ s = cc in ap (λ x. found x []) i
    go (found a (b ∷ l)) e = let z : ◌≡◌ {A = ℕ} 0 1 = cc in absurd (omega arith)
    go torn e = let z : ◌≡◌ {A = ℕ} 0 1 = cc in absurd (omega arith)

-- The lines of the header, each behind the one before.
pub record HeaderStands (t : List ℕ) (h : Header) : Type 0 where
  pub domain_end : ℕ
  pub first_end : ℕ
  pub next_end : ℕ
  pub domain_read : Reads (line "domain" number).read t 0 (Some (h.domain, domain_end))
  pub first_read : Reads (line "first" number).read t domain_end (Some (h.first, first_end))
  pub next_read : Reads (line "next" number).read t first_end (Some (h.next, next_end))
  pub count_read : Reads (line "plugins" number).read t next_end (Some (h.count, h.behind))

abbrev pub HeaderRead : List ℕ → Option Header → Type 0
HeaderRead t None = Reads text.read t 0 None
HeaderRead t (Some h) = HeaderStands t h

pub header_torn : (t : List ℕ) → HeaderRead t None → Hopeless t
unfolding read_text
header_torn t x = no_text t (whole_torn text t x)

module _ (t : List ℕ) (h : Header) (x : HeaderStands t h) where
  abbrev said : List Plugin → Said
  said ps = record { domain = h.domain; first = h.first; next = h.next; plugins = ps }

  abbrev to_said : (ℕ × (ℕ × ℕ)) × List Plugin → Said
  to_said = λ ((domain, (first, next)), plugins). record { domain = domain; first = first; next = next; plugins = plugins }

  head : Reads header.read t 0 (Some ((h.domain, (h.first, h.next)), x.next_end))
  head = then_next (line "domain" number) (line "first" number then line "next" number) x.domain_read
      (then_next (line "first" number) (line "next" number) x.first_read x.next_read)

  whole : {ps : List Plugin} {m : ℕ} → Reads (with_count block).read t x.next_end (Some (ps, m)) → Reads text.read t 0 (Some (said ps, m))
  whole y = like_next (header then with_count block) to_said (then_next header (with_count block) head y)

  abbrev at : ℕ
  at = h.behind

  pub header_within : at ≤ length t
  header_within = x.count_read.fits

  -- what is left of the text once its header was read
  text_left : read_from text.read t 0
      ≡ and_then (and_then (read_from (read_many block h.count) t at) (λ ps r. found ((h.domain, (h.first, h.next)), ps) r))
      (λ a r. found (to_said a) r)
  text_left =
      from_then (header then with_count block).read (λ a r. found (to_said a) r) t (Some 0)
      ∙ ap (λ z. and_then z (λ a r. found (to_said a) r))
      (read_on header.read (λ a r. and_then ((with_count block).read r) (λ b s. found (a, b) s)) t head
      ∙ from_then (with_count block).read (λ b s. found ((h.domain, (h.first, h.next)), b) s) t (Some x.next_end)
      ∙ ap (λ z. and_then z (λ b s. found ((h.domain, (h.first, h.next)), b) s))
      (read_on (line "plugins" number).read (λ k r. read_many block k r) t x.count_read))

  pub plugins_refused : Unfit t at h.count h.first h.next → Hopeless t
  plugins_refused u s e = go (read_from (read_many block h.count) t at) refl
      (sym text_left ∙ read_at text.read t 0 (omega arith) ∙ read_some t s e)
    where
      go : (r : Read (List Plugin)) → read_from (read_many block h.count) t at ≡ r
          → and_then (and_then r (λ ps r. found ((h.domain, (h.first, h.next)), ps) r)) (λ a r. found (to_said a) r) ≡ found s [] → loadable s ≡ false
      go (found ps rest) i z = let j : said ps ≡ s = cc in subst (λ (s : Said). loadable s ≡ false) j (u (said ps) rest refl refl i)
      go torn i z = torn_found s [] z

  -- all plugins have joined
  module _ (domain : ℕ) {w : List ℕ} {end rows from : ℕ} (g : PluginsSoFar t at domain h.first h.next w end rows from h.count)
      (most : h.count ≤ max_plugins) where
    abbrev ps : List Plugin
    ps = g.done

    all_read : Reads text.read t 0 (Some (said ps, end))
    all_read = whole (counted_next (line "plugins" number) block x.count_read g.reads)

    pub too_long : end < length t → Hopeless t
    unfolding read_text
    too_long l = no_text t (whole_part text t (said ps) end l all_read)

    pub says : end ≡ length t → read_text t ≡ Some (said ps)
    unfolding read_text
    says e = whole_all text t (said ps) (subst (λ k. Reads text.read t 0 (Some (said ps, k))) e all_read)

    held : plugins (view w) ≡ map unqueued ps
    held = ap plugins g.written.registry ∙ held_placed max_plugins (map unqueued ps) g.written.few

    few : length ps ≤ max_plugins
    few = omega (arith, g.count)

    differ : ports_differ (plugins (view w)) ≡ ports_differ ps
    differ = ap ports_differ held ∙ ap (λ l. not (repeats l)) (claims_unqueued ps)

    serves : repeats (claims_of (plugins (view w))) ≡ false
        → all (λ (p : Plugin). running p ⊃ all (available (view w)) p.dependencies) (plugins (view w)) ≡ all (dependencies_served ps) ps
    serves apart = available_served (view w) apart ∙ ap (λ (l : List Plugin). all (dependencies_served l) l) held ∙ served_unqueued ps

    cycles : no_cycles (plugins (view w)) ≡ no_cycles ps
    cycles = ap no_cycles held ∙ cycles_unqueued ps

    hold : all_hold (view w) ≡ (ports_differ ps && all (dependencies_served ps) ps && no_cycles ps)
    unfolding all_hold
    hold = by_test (repeats (claims_of (plugins (view w))))
        (λ y. rw (y, sym differ ∙ ap not y))
        (λ n. rw (n, sym differ ∙ ap not n, serves n, cycles))

    loads : all_hold (view w) ≡ loadable (said ps)
    loads =
        hold
        ∙ sym (rw (le-leb (length ps) max_plugins few, g.join, le-leb (behind_ids h.first ps) h.next (omega (arith, g.ids, g.within_next)))
        at (sym (joined_loadable (said ps))))

    module _ (e : end ≡ length t) where
      pub unfit : all_hold (view w) ≡ false → Hopeless t
      unfit n s i =
          let j : Some (said ps) ≡ Some s = sym (says e) ∙ i in
          let k : said ps ≡ s = cc in
          subst (λ (s : Said). loadable s ≡ false) k (sym loads ∙ n)

      pub accepted : all_hold (view w) ≡ true → TextRead t domain (Some h.domain) w
      accepted y = subst (TextRead t domain (Some h.domain)) (sym (so_far_words domain h.first h.next g.written))
          (good (said ps) (says e) (sym loads ∙ y))

-- The refusal where there is no domain.
pub bad_text : (o : Option ℕ) (x : Refusal) → ◌≡◌ {A = Result ℕ Refusal} (Err x) (ok_or o BadText) → x ≡ BadText
bad_text (Some d) x e = cc
bad_text None x e = cc

-- What is answered, and what is left.
module _ (t : List ℕ) (d : ℕ) (m : List ℕ) where
  pub load_bad : {r : Option ℕ} {w : List ℕ} → TextRead t d r w → r ≡ None → Opens m (load d t) (Refused 24 []) m
  unfolding load leaves_load
  load_bad (good s e h) i = let z : ◌≡◌ {A = ℕ} 0 1 = cc in absurd (omega arith)
  load_bad (bad w u) i = go (read_text t) refl
    where
      go : (o : Option Said) → read_text t ≡ o → Opens m (opening d (read_text t)) (Refused 24 []) m
      go None e = rw e (refl, refl)
      go (Some s) e = rw (e, u s e) (refl, refl)

  module _ {own : ℕ} where
    pub load_same : {r : Option ℕ} {w : List ℕ} → TextRead t d r w → r ≡ Some own → own ≡ d → Opens m (load d t) (Refused 25 []) m
    unfolding load leaves_load
    load_same (good s e h) i j = let k : s.domain ≡ own = cc in rw (e, h, eq-eqb s.domain d (k ∙ j)) (refl, refl)
    load_same (bad w u) i j = let z : ◌≡◌ {A = ℕ} 0 1 = cc in absurd (omega arith)

    pub load_good : {r : Option ℕ} {w : List ℕ} → TextRead t d r w → r ≡ Some own → (own ≡ d → ⊥) → Opens m (load d t) (Accepted []) w
    unfolding load leaves_load
    load_good (good s e h) i j = let k : s.domain ≡ own = cc in rw (e, h, ne_eqb s.domain d (λ l. j (sym k ∙ l))) (refl, refl)
    load_good (bad w u) i j = let z : ◌≡◌ {A = ℕ} 0 1 = cc in absurd (omega arith)
