-- What is read of a block: its plugin, its lists as words.
use Rattle.std.specs.Prelude.{ℕ, suc, ◌+◌, ◌*◌, ◌≤◌, ◌≡◌, refl, List, length, take, replicate, Option, Some, None}
use Rattle.std.proofs.Common.{arith, sym, ap, ◌∙◌, take_all}
use Rattle.std.proofs.lemmas.List.{length-map}
use Rattle.rules.specs.Limits.{max_provision_keys, max_realm_rows, max_dependencies}
use Rattle.rules_types.specs.declared.Port.{Port}
use Rattle.rules.specs.Holds.{RealmList, Provision, Plugin, provided}
use Rattle.rules.specs.Ports.{flat, realm_numbers}
use Rattle.rules.specs.Conditions.{claims}
use Rattle.rules.specs.Text.{Lines, lines, block, realms}
use Rattle.rules.specs.Text.Values.{key_realm, key_realm_value}
use Rattle.text_form.specs.Forms.{Form, ◌then◌}
use Rattle.text_form.specs.Lines.{list}
use Rattle.memory_values.specs.Values.{mask_of, values_of}
use Rattle.text_read_number.specs.Reads.{Reads, ReadsFrom, said_as, reads_none, reads_one}
use Rattle.text_read_block.specs.declared.Head.{Head}
use Rattle.text_read_block.specs.declared.Lists.{Lists}
use Rattle.text_read_block.specs.declared.Block.{Block}
use Rattle.text_read_block.specs.Rows.{rows_put, all_put, rows_front, all_front}
use Rattle.text_read_block.specs.Lists.{realm_rows}
use Rattle.text_read_block.specs.Valued.{valued_of}

-- What a block's lists say, and its lines with them.
abbrev pub Listed : Type 0
Listed = RealmList × (List Port × List Provision)

abbrev pub listed : Form Listed
listed = realms then list "deps" "dep" key_realm then list "provs" "prov" key_realm_value

abbrev pub told : Head → Listed → Lines
told h l = (h.id, (h.parent, (h.phase, (h.retired, (h.generation, (h.revision, (h.payload, (h.root, (h.anchor, l)))))))))

-- The lines before the lists: what is read of the lists from the place behind them is read of all.
abbrev pub HeadRead : List ℕ → Option ℕ → Option Head → Type 0
HeadRead t at None = ReadsFrom lines.read t at None
HeadRead t at (Some h) = (r : Option (Listed × ℕ)) → Reads listed.read t h.next r → ReadsFrom lines.read t at (said_as (told h) r)

-- the words that a torn block leaves
abbrev pub empty : Lists
empty = record { realms = replicate 34 0; dependencies = replicate 96 0; claims = replicate 32 0; values = replicate 15 0 }

-- a plugin beside its lists, and the place behind its block
abbrev pub block_of : Plugin → ℕ → Block
block_of p n = record {
  id = p.id;
  parent = p.parent;
  phase = p.phase;
  retired = p.retired;
  generation = p.generation;
  revision = p.revision;
  payload = p.payload;
  root = p.root;
  realms = length p.realms.rows;
  dependencies = length p.dependencies;
  provisions = length p.provisions;
  valued = valued_of p.provisions;
  mask = mask_of (take max_provision_keys p.provisions);
  next = n;
}

-- its lists at the front of lent words, as far as they have room
abbrev pub lists_of : Lists → Plugin → Lists
lists_of before p = record {
  realms = rows_put before.realms 0 (realm_rows p.realms);
  dependencies = rows_put before.dependencies 0 p.dependencies;
  claims = rows_put before.claims 0 (claims p);
  values = all_put before.values 0 (values_of p.provisions);
}

-- A plugin that was read.
pub record Whole (t : List ℕ) (at : Option ℕ) (before : Lists) (b : Block) (after : Lists) : Type 0 where
  pub plugin : Plugin
  pub reads : ReadsFrom block.read t at (Some (plugin, b.next))
  pub says : b ≡ block_of plugin b.next
  pub stored : after ≡ lists_of before plugin

abbrev pub LinesRead : List ℕ → Option ℕ → Lists → Option Block → Lists → Type 0
LinesRead t at before None after = ReadsFrom block.read t at None
LinesRead t at before (Some b) after = Whole t at before b after

-- Of a torn block nothing is told: what was read before the tear is cleared. So it is of none, where what was to be read before is torn.
abbrev pub BlockRead : List ℕ → Option ℕ → Lists → Option Block → Lists → Type 0
BlockRead t at before None after = ReadsFrom block.read t at None × (after ≡ empty)
BlockRead t at before (Some b) after = Whole t at before b after

-- Two outcomes that the promise allows are equal.
some_both : {A : Type 0} {a b : A} {m n : ℕ} → ◌≡◌ {A = Option (A × ℕ)} (Some (a, m)) (Some (b, n)) → (a ≡ b) × (m ≡ n)
some_both {A} {a} {b} {m} {n} e =
    let p : ◌≡◌ {A = A × ℕ} (a, m) (b, n) = cc in
    (ap (λ (q : A × ℕ). q.0) p, ap (λ (q : A × ℕ). q.1) p)

module _ (t : List ℕ) (at : Option ℕ) (before : Lists) where
  pub block_one : (a b : Option Block) {x y : Lists} → BlockRead t at before a x → BlockRead t at before b y → (a ≡ b) × (x ≡ y)
  block_one None None x y = (refl, x.1 ∙ sym y.1)
  block_one None (Some b) x y = let e = reads_one x.0 y.reads in let z : ◌≡◌ {A = ℕ} 0 1 = cc in absurd (omega arith)
  block_one (Some a) None x y = let e = reads_one x.reads y.0 in let z : ◌≡◌ {A = ℕ} 0 1 = cc in absurd (omega arith)
  block_one (Some a) (Some b) x y =
      let e = some_both (reads_one x.reads y.reads) in (
        ap Some (x.says ∙ ap (block_of x.plugin) e.1 ∙ ap (λ (p : Plugin). block_of p b.next) e.0 ∙ sym y.says),
        x.stored ∙ ap (lists_of before) e.0 ∙ sym y.stored,
      )

-- Of none, none is answered, and all is cleared.
pub block_none : (t : List ℕ) (before : Lists) (r : Option Block) {after : Lists} → BlockRead t None before r after → (r ≡ None) × (after ≡ empty)
block_none t before r x = block_one t None before r None x (reads_none block.read t None refl, refl)

-- Lists that have room stand in front of their words.
module _ (p : Plugin) (into : List ℕ) where
  pub realms_front : length into ≡ 34 → length p.realms.rows ≤ max_realm_rows
      → take (length p.realms.rows * 2 + 2) (rows_put into 0 (realm_rows p.realms)) ≡ realm_numbers p.realms
  realms_front l h =
      let e : length p.realms.rows * 2 + 2 ≡ (0 + suc (length p.realms.rows)) * 2 = omega arith in
      rw e (rows_front into 0 (realm_rows p.realms) (omega arith))

  pub dependencies_front : length into ≡ 96 → length p.dependencies ≤ max_dependencies
      → take (length p.dependencies * 2) (rows_put into 0 p.dependencies) ≡ flat p.dependencies
  dependencies_front l h =
      let e : length p.dependencies * 2 ≡ (0 + length p.dependencies) * 2 = omega arith in
      rw e (rows_front into 0 p.dependencies (omega arith))

  pub claims_front : length into ≡ 32 → length p.provisions ≤ max_provision_keys
      → take (length p.provisions * 2 + 2) (rows_put into 0 (claims p)) ≡ flat (claims p)
  claims_front l h =
      let c : length (provided p) ≡ length p.provisions = length-map p.provisions _ in
      let e : length p.provisions * 2 + 2 ≡ (0 + suc (length (provided p))) * 2 = omega arith in
      rw e (rows_front into 0 (claims p) (omega arith))

  pub values_front : length into ≡ 15 → length p.provisions ≤ max_provision_keys
      → take (length p.provisions) (all_put into 0 (values_of p.provisions)) ≡ values_of p.provisions
  values_front l h =
      let c : length (values_of p.provisions) ≡ length p.provisions = length-map p.provisions _ in
      let e : length p.provisions ≡ 0 + length (values_of p.provisions) = omega arith in
      rw e (all_front into 0 (values_of p.provisions) (omega arith))

pub mask_whole : (p : Plugin) → length p.provisions ≤ max_provision_keys → mask_of (take max_provision_keys p.provisions) ≡ mask_of p.provisions
mask_whole p h = ap mask_of (take_all max_provision_keys p.provisions h)
