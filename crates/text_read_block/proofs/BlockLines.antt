-- A block from its lines: each line goes on where the one before it ends, and what they say together is a plugin.
use Rattle.std.specs.Prelude.{Option, Some, None}
use Prim.Native.Nat.{ℕ}
use mathlib.Core.Path.{◌≡◌, ap, ◌∙◌}
use mathlib.Core.Bool.{Bool}
use mathlib.Core.List.{List}
use Rattle.rules_types.specs.declared.Phase.{Phase}
use Rattle.rules_types.specs.declared.Port.{Port}
use Rattle.rules_types.specs.declared.Root.{Root}
use Rattle.rules.specs.Holds.{Provision}
use Rattle.rules.specs.Text.{lines, plugin_of, block, realms}
use Rattle.rules.specs.Text.Values as values
use Rattle.rules.specs.Text.Values.{key_realm, key_realm_value, root_and_queued, zero_or_one}
use Rattle.text_form.specs.Bytes.{bytes}
use Rattle.text_form.specs.Forms.{Form, ◌then◌}
use Rattle.text_form.specs.Lines.{line, list, number, number_or_none}
use Rattle.text_read_number.specs.Reads.{Reads, ReadsFrom}
use Rattle.text_read.specs.Ways.{then_torn, then_none, then_next, like_next}
use Rattle.text_read_block.specs.declared.Head.{Head}
use Rattle.text_read_block.specs.declared.Provided.{Provided}
use Rattle.text_read_block.specs.Rows.{row_put, rows_put}
use Rattle.text_read_block.specs.Lists.{PortsStand, RealmsStand, ProvisionsStand, ports_of}
use Rattle.text_read_block.specs.Blocks.{Listed, listed, told, HeadRead, LinesRead}

-- The forms of the lines from the second, the third and so on.
abbrev from_anchor : Form (Port × Listed)
from_anchor = line "anchor" key_realm then listed

abbrev from_root : Form (Root × (Port × Listed))
from_root = root_and_queued then from_anchor

abbrev from_payload : Form (ℕ × (Root × (Port × Listed)))
from_payload = line "payload" number then from_root

abbrev from_revision : Form (ℕ × (ℕ × (Root × (Port × Listed))))
from_revision = line "revision" number then from_payload

abbrev from_generation : Form (ℕ × (ℕ × (ℕ × (Root × (Port × Listed)))))
from_generation = line "generation" number then from_revision

abbrev from_mark : Form (Bool × (ℕ × (ℕ × (ℕ × (Root × (Port × Listed))))))
from_mark = line "retired" zero_or_one then from_generation

abbrev from_phase : Form (Phase × (Bool × (ℕ × (ℕ × (ℕ × (Root × (Port × Listed)))))))
from_phase = line "phase" values.phase then from_mark

abbrev from_parent : Form (Option ℕ × (Phase × (Bool × (ℕ × (ℕ × (ℕ × (Root × (Port × Listed))))))))
from_parent = line "parent" number_or_none then from_phase

-- What the lines before the lists say, each from the place behind the one before it.
module _ {t : List ℕ} {at : Option ℕ} {m1 m2 m3 m4 m5 m6 m7 m8 : ℕ} (h : Head)
    (x1 : ReadsFrom (line "id" number).read t at (Some (h.id, m1)))
    (x2 : Reads (line "parent" number_or_none).read t m1 (Some (h.parent, m2)))
    (x3 : Reads (line "phase" values.phase).read t m2 (Some (h.phase, m3)))
    (x4 : Reads (line "retired" zero_or_one).read t m3 (Some (h.retired, m4)))
    (x5 : Reads (line "generation" number).read t m4 (Some (h.generation, m5)))
    (x6 : Reads (line "revision" number).read t m5 (Some (h.revision, m6)))
    (x7 : Reads (line "payload" number).read t m6 (Some (h.payload, m7)))
    (x8 : Reads root_and_queued.read t m7 (Some (h.root, m8)))
    (x9 : Reads (line "anchor" key_realm).read t m8 (Some (h.anchor, h.next)))
  where
    pub head_said : HeadRead t at (Some h)
    head_said None y =
        then_none (line "id" number) from_parent x1
        (then_none (line "parent" number_or_none) from_phase x2
        (then_none (line "phase" values.phase) from_mark x3
        (then_none (line "retired" zero_or_one) from_generation x4
        (then_none (line "generation" number) from_revision x5
        (then_none (line "revision" number) from_payload x6
        (then_none (line "payload" number) from_root x7
        (then_none root_and_queued from_anchor x8
        (then_none (line "anchor" key_realm) listed x9 y))))))))
    head_said (Some (l, n)) y =
        then_next (line "id" number) from_parent x1
        (then_next (line "parent" number_or_none) from_phase x2
        (then_next (line "phase" values.phase) from_mark x3
        (then_next (line "retired" zero_or_one) from_generation x4
        (then_next (line "generation" number) from_revision x5
        (then_next (line "revision" number) from_payload x6
        (then_next (line "payload" number) from_root x7
        (then_next root_and_queued from_anchor x8
        (then_next (line "anchor" key_realm) listed x9 y))))))))

-- The lists behind them, in their order: the whole is torn with the first that is.
abbrev from_dependencies : Form (List Port × List Provision)
from_dependencies = list "deps" "dep" key_realm then list "provs" "prov" key_realm_value

module _ {t : List ℕ} {at : Option ℕ} {h : Head} (x : HeadRead t at (Some h)) where
  pub realms_torn : Reads realms.read t h.next None → ReadsFrom block.read t at None
  realms_torn z = like_next lines plugin_of (x None (then_torn realms from_dependencies z))

  module _ {before : List ℕ} {n m : ℕ} {after : List ℕ} (z : RealmsStand t h.next before n m after) where
    pub dependencies_torn : Reads (list "deps" "dep" key_realm).read t m None → ReadsFrom block.read t at None
    dependencies_torn d =
        like_next lines plugin_of (x None
        (then_none realms from_dependencies z.reads (then_torn (list "deps" "dep" key_realm) (list "provs" "prov" key_realm_value) d)))

    module _ {before' : List ℕ} {n' m' : ℕ} {after' : List ℕ} (d : PortsStand (bytes "deps=") (bytes "dep=") t m before' 0 n' m' after') where
      pub provisions_torn : Reads (list "provs" "prov" key_realm_value).read t m' None → ReadsFrom block.read t at None
      provisions_torn v =
          like_next lines plugin_of (x None
          (then_none realms from_dependencies z.reads (then_none (list "deps" "dep" key_realm) (list "provs" "prov" key_realm_value) d.reads v)))

      -- All of it: the words of the claims begin with the anchor's.
      pub lines_said : {claims led values : List ℕ} {r : Provided} {claims' values' : List ℕ} → led ≡ row_put claims 0 h.anchor.key h.anchor.realm
          → ProvisionsStand t m' led values r claims' values'
          → LinesRead t at (record { realms = before; dependencies = before'; claims = claims; values = values })
          (Some (record {
            id = h.id;
            parent = h.parent;
            phase = h.phase;
            retired = h.retired;
            generation = h.generation;
            revision = h.revision;
            payload = h.payload;
            root = h.root;
            realms = n;
            dependencies = n';
            provisions = r.count;
            valued = r.valued;
            mask = r.mask;
            next = r.next;
          }))
          (record { realms = after; dependencies = after'; claims = claims'; values = values' })
      unfolding rows_put
      lines_said {claims} {r = r} f v =
          let l : Listed = (z.list, (d.ports, v.provisions)) in
          record {
            plugin = plugin_of (told h l);
            reads =
                like_next lines plugin_of (x (Some (l, r.next))
                (then_next realms from_dependencies z.reads
                (then_next (list "deps" "dep" key_realm) (list "provs" "prov" key_realm_value) d.reads v.reads)));
            says = λ i. record {
              id = h.id;
              parent = h.parent;
              phase = h.phase;
              retired = h.retired;
              generation = h.generation;
              revision = h.revision;
              payload = h.payload;
              root = h.root;
              realms = z.count i;
              dependencies = d.count i;
              provisions = v.count i;
              valued = v.valued i;
              mask = v.mask i;
              next = r.next;
            };
            stored = λ i. record {
              realms = z.stored i;
              dependencies = d.stored i;
              claims = (v.claims_stored ∙ ap (λ (w : List ℕ). rows_put w 1 (ports_of v.provisions)) f) i;
              values = v.values_stored i;
            };
          }
