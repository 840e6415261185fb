-- What a memory's text tells: two memories of 64-bit words have the same text exactly if they say the same registry up to the plugins'
-- places; of a made memory every plugin is written, once, by rising id, and the text is not long.
use Rattle.std.specs.Prelude.{ℕ, ◌≤◌, ◌≡◌, List, length}
use Rattle.rules.specs.Text.{text_of}
use Rattle.memory.specs.View.{view}
use Rattle.text_laws.specs.Rising.{InOrder, in_order}
use Rattle.text_laws.specs.Same.{Same, same_text, text_same}
use Rattle.text_laws.specs.Sizes.{built_text}
use Rattle.text_write.specs.Numbers.{Small, words_fit}
use Rattle.demands.specs.Demand2.{Made}
use Rattle.demands.proofs.Demand2.{made_sound}

module _ (m m' : List ℕ) where
  pub text_same_words : Small m → Small m' → text_of (view m) ≡ text_of (view m') → Same (view m) (view m')
  text_same_words h h' e = text_same (view m) (view m') (words_fit m h) (words_fit m' h') e

  pub same_text_words : Same (view m) (view m') → text_of (view m) ≡ text_of (view m')
  same_text_words s = same_text (view m) (view m') s

pub made_in_order : (m : List ℕ) → Made m → InOrder (view m)
made_in_order m w = in_order (view m) (made_sound m w).built

pub made_text : (m : List ℕ) → Made m → Small m → length (text_of (view m)) ≤ 93230
made_text m w h = built_text (view m) (words_fit m h) (made_sound m w).built
