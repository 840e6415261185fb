-- `put_values` meets its contract: to store the values from k on over what is stored is to store all of the first 15.
use Rattle.std.proofs.Common.{ℕ, suc, ◌+◌, ◌≤◌, ◌<◌, ◌≡◌, refl, sym, ap, ◌∙◌, List, add-one, arith, length, get_or, set, take, drop, length-take, drop_of_length-le, drop-cons, get_or-take}
use Rattle.rules.specs.Limits.{max_provision_keys}
use Rattle.memory.specs.Writes.{puts}
use Rattle.memory_values.specs.Values.{put_values}
use Rattle.memory_values.proofs.put_values.Goals as goal
use Rattle.memory_values.proofs.put_values.Invariants.{from}

put_next : (m values : List ℕ) (n b k : ℕ) → k < n → k < length values
    → puts m b k (from n k values) ≡ puts (set m (b + k) (get_or values k 0)) b (k + 1) (from n (k + 1) values)
put_next m values n b k h l =
    ap (λ x. puts m b k x) (drop-cons (take n values) k 0 (simp length-take (omega arith)))
    ∙ ap (λ x. puts (set m (b + k) x) b (k + 1) (drop (suc k) (take n values))) (get_or-take n values k 0 h)
    ∙ ap (λ x. puts (set m (b + k) (get_or values k 0)) b (k + 1) (drop x (take n values))) (sym (add-one k))

put_end : (m values : List ℕ) (n b k : ℕ) → length (take n values) ≤ k → puts m b k (from n k values) ≡ m
put_end m values n b k h = rw (drop_of_length-le (take n values) h)

pub loop-k-preserved : goal.loop-k-preserved
loop-k-preserved c =
    let l = c.loop-k in
    l.invariant ∙ put_next l.m c.args.values.now max_provision_keys _ l.k (omega arith) (omega arith)

pub returns : goal.returns
unfolding put_values
returns c =
    let l = c.loop-k in
    let values = c.args.values.now in
    sym (l.invariant ∙ put_end l.m values max_provision_keys _ l.k (omega (arith, length-take max_provision_keys values)))
