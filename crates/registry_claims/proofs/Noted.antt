-- A port that is not behind goes in front of the noted ones: its key is seen from then on.
use Prim.Native.Nat.{ℕ}
use native.Mathlib.Omega.{arith}
use mathlib.Core.Path.{◌≡◌, refl, sym}
use mathlib.Core.Bool.{true, false, ◌&&◌, true≢false}
use mathlib.Core.List.{List, ◌∷◌}
use lib.ListN.{length}
use borrow.Author.Tests.{eqb-true}
use Rattle.rules_types.specs.declared.Port.{Port}
use Rattle.rules.specs.Holds.{same_port, is_in}
use Rattle.rules.specs.Registration.{repeats}
use Rattle.rules_laws.specs.Laws.Tests.{by_test, both}
use Rattle.memory.specs.Layout.{places}
use Rattle.registry_claims.specs.Seen.{key_words, seen, see}
use Rattle.registry_claims.specs.Behind.{claims_from, Noted}
use Rattle.registry_claims.proofs.Behind.{claims_end}
use Rattle.registry_claims.proofs.Bits.{see_size, seen_comes, seen_stays}

-- no place is left behind the last one
pub noted_end : (m keys : List ℕ) → length keys ≡ key_words → Noted keys (claims_from m places)
noted_end m keys size =
    rw (claims_end m places (omega arith)) (record { size = size; apart = refl; noted = λ q e. absurd (true≢false (sym e)) })

module _ (keys : List ℕ) (ports : List Port) (n : Noted keys ports) (q : Port) where
  -- a port that is behind has its key's bit
  not_behind : (seen keys q.key && is_in q ports) ≡ false → is_in q ports ≡ false
  not_behind f = by_test (is_in q ports)
      (λ y. let z : true ≡ false = rw (n.noted q y, y) at f in absurd (true≢false z))
      (λ u. u)

  pub noted_next : (seen keys q.key && is_in q ports) ≡ false → Noted (see keys q.key) (q ∷ ports)
  noted_next f = record {
    size = see_size keys n.size q.key;
    apart = rw (not_behind f) n.apart;
    noted = λ p e. by_test (same_port p q)
        (λ y. let k : p.key ≡ q.key = eqb-true _ _ (both _ _ y).0 in rw k (seen_comes keys n.size q.key))
        (λ u. seen_stays keys n.size q.key p.key (n.noted p (rw u at e)));
  }

  pub repeats_now : (seen keys q.key && is_in q ports) ≡ true → repeats (q ∷ ports) ≡ true
  repeats_now t = let y = (both (seen keys q.key) (is_in q ports) t).1 in rw y
