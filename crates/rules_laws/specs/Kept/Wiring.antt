-- How a change of one plugin keeps the wiring: every dependency of a running plugin served, two providers of a port one.
use Rattle.std.specs.Prelude.{ℕ, ◌≡◌, true, false, ◌⊎◌, eqb, Option, Some, None}
use Rattle.std.proofs.Common.{sym, ap, ◌∙◌, subst, ⊎_elim, eqb-true}
use Rattle.rules_types.specs.declared.Port.{Port}
use Rattle.rules_types.specs.declared.Phase.TheVariants.{Active}
use Rattle.rules.specs.Holds.{Plugin, Registry, lookup, provides, running}
use Rattle.rules_laws.specs.Laws.Tests.{by_test}
use Rattle.rules_laws.specs.Laws.Members.{In}
use Rattle.rules_laws.specs.Built.{Served, Wanted, Wired}
use Rattle.rules_laws.specs.Kept.Places.{Only}

-- an Active provider of the port
abbrev pub Serves : Port → Option Plugin → Type 0
Serves k None = ⊥
Serves k (Some p) = (p.phase ≡ Active) × (provides p k ≡ true)

-- where the plugin runs, its dependencies were wanted before, or are served by another than id
abbrev pub Starts : Registry → ℕ → Plugin → Type 0
Starts r id q = running q ≡ true → (k : Port) → In k q.dependencies → Wanted r k ⊎ ((v : Served r k) × (eqb id v.id ≡ false))

-- where the plugin is Active and wanted, u' serves in its place
abbrev pub Stays : Registry → Option Plugin → Plugin → Type 0
Stays r u' p = p.phase ≡ Active → (k : Port) → provides p k ≡ true → Wanted r k → Serves k u'

-- what the plugin provides none does but id
abbrev pub Claims : Registry → ℕ → Plugin → Type 0
Claims r id q = (k : Port) → provides q k ≡ true → (y : ℕ) (b : Plugin) → lookup r y ≡ Some b → provides b k ≡ true → eqb id y ≡ false → ⊥

-- true of the plugin, if there is one
abbrev pub IfSome : (Plugin → Type 0) → Option Plugin → Type 0
IfSome f None = Unit {0}
IfSome f (Some p) = f p

-- What a change of the plugin id has to meet: before it is u, afterwards u'.
pub record Rewired (r : Registry) (id : ℕ) (u u' : Option Plugin) : Type 0 where
  pub start : IfSome (Starts r id) u'
  pub stay : IfSome (Stays r u') u
  pub claim : IfSome (Claims r id) u'

module _ (r r' : Registry) (id : ℕ) (u u' : Option Plugin) (w : Wired r) (o : Only r r' id u u') (c : Rewired r id u u') where
  -- what is found under id afterwards
  here : (x : ℕ) (q : Plugin) → eqb id x ≡ true → lookup r' x ≡ Some q → u' ≡ Some q
  here x q y e = sym o.now ∙ ap (lookup r') (eqb-true id x y) ∙ e

  served_elsewhere : (k : Port) (v : Served r k) → eqb id v.id ≡ false → Served r' k
  served_elsewhere k v n = record {
    id = v.id;
    plugin = v.plugin;
    registered = o.other v.id n ∙ v.registered;
    active = v.active;
    gives = v.gives;
  }

  served_here : (k : Port) (v : Option Plugin) → lookup r' id ≡ v → Serves k v → Served r' k
  served_here k None e s = absurd s
  served_here k (Some q) e s = record { id = id; plugin = q; registered = e; active = s.0; gives = s.1 }

  still_served : (k : Port) → Wanted r k → Served r' k
  still_served k want =
      let v = w.served k want in
      by_test (eqb id v.id)
      (λ y. let e : u ≡ Some v.plugin = sym o.was ∙ ap (lookup r) (eqb-true id v.id y) ∙ v.registered in
      served_here k u' o.now (subst (IfSome (Stays r u')) e c.stay v.active k v.gives want))
      (λ n. served_elsewhere k v n)

  served_after : (k : Port) → Wanted r' k → Served r' k
  served_after k want = by_test (eqb id want.id)
      (λ y. ⊎_elim (λ was. still_served k was) (λ v. served_elsewhere k v.0 v.1)
      (subst (IfSome (Starts r id)) (here want.id want.plugin y want.registered) c.start want.runs k want.depends))
      (λ n. still_served k (record {
        id = want.id;
        plugin = want.plugin;
        registered = sym (o.other want.id n) ∙ want.registered;
        runs = want.runs;
        depends = want.depends;
      }))

  -- what stands under id and what stands under another id don't both provide a port
  apart : (x y : ℕ) (p q : Plugin) (k : Port) → eqb id x ≡ true → eqb id y ≡ false → lookup r' x ≡ Some p → lookup r' y ≡ Some q
      → provides p k ≡ true → provides q k ≡ true → ⊥
  apart x y p q k i n f g a b = subst (IfSome (Claims r id)) (here x p i f) c.claim k a y q (sym (o.other y n) ∙ g) b n

  sole_after : (x y : ℕ) (p q : Plugin) (k : Port) → lookup r' x ≡ Some p → lookup r' y ≡ Some q → provides p k ≡ true → provides q k ≡ true → x ≡ y
  sole_after x y p q k f g a b = by_test (eqb id x)
      (λ i. by_test (eqb id y)
      (λ j. sym (eqb-true id x i) ∙ eqb-true id y j)
      (λ n. absurd (apart x y p q k i n f g a b)))
      (λ m. by_test (eqb id y)
      (λ j. absurd (apart y x q p k j m g f b a))
      (λ n. w.sole x y p q k (sym (o.other x m) ∙ f) (sym (o.other y n) ∙ g) a b))

  pub rewired : Wired r'
  rewired = record {
    served = served_after;
    sole = sole_after;
  }
