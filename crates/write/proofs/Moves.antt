-- Stores one after the other that move the root and the stream of one slot alone, and the change that they make. Assumes nothing.
use mathlib.Core.Path.{◌≡◌, refl, ◌∙◌, ap}
use mathlib.Core.Logic.{◌≢◌}
use mathlib.Core.Bool.{false}
use mathlib.Core.List.{List}
use mathlib.Core.Option.{Option, some}
use Prim.Native.Nat.{ℕ, suc, ◌+◌, ◌*◌}
use native.Mathlib.Omega.{arith}
use lib.ListN.{length, take}
use lib.Seq.{take_all}
use Rattle.primitives.specs.Splice.{splice}
use Rattle.tables.specs.Table.{upd}
use Rattle.tables.specs.Lists.{Mem}
use Rattle.tables.proofs.TableLaws.{upd_other}
use Rattle.boot.specs.declared.geometry.Geometry.{Geometry}
use Rattle.boot.specs.declared.layout.Layout.{Layout}
use Rattle.boot.specs.Geometry.{root_cluster}
use Rattle.boot.specs.Limits.{in_map}
use Rattle.metadata.proofs.Counting.{marked_count}
use Rattle.stream.specs.declared.allocation.Allocation.{Allocation}
use Rattle.stream.specs.Stream.{stream_of, clusters_in}
use Rattle.directory.specs.Directory.{root_record}
use Rattle.stream.specs.Bytes.{bytes_in}
use Rattle.directory.specs.Internal.{sets}
use Rattle.directory.specs.Room.{with_zeros}
use Rattle.directory.proofs.GrowthLaws.{zeros_none}
use Rattle.directory.proofs.OrderedLaws.{Ordered}
use Rattle.directory.specs.Open.{file_record}
use Rattle.write.specs.Consistent.{lay, root_clusters, root_bytes, set_of}
use Rattle.write.specs.Demand.{entries_put}
use Rattle.write.proofs.Family.{Family, Outside, Moved}
use Rattle.write.proofs.Scene.{members, member-file}
use Rattle.write.proofs.Change.{takes, Change}

-- d' is d with the root and the stream of slot i moved, the table S being S' now; the streams of other slots as they were
pub record Moves (y : Layout) (d d' : List ℕ) (S S' : ℕ → Option Allocation) (i : ℕ) : Type 0 where
  pub long : length d' ≡ length d
  pub family : Family y d' S'
  pub others : (j : ℕ) → j ≢ i → S' (suc j) ≡ S (suc j)
  pub clusters : (j : ℕ) (a : Allocation) → j ≢ i → S (suc j) ≡ some a → stream_of y d' a ≡ stream_of y d a
  pub bytes : (j : ℕ) (a : Allocation) → j ≢ i → S (suc j) ≡ some a → bytes_in y d' a ≡ bytes_in y d a
  pub outside : (k : ℕ) → Outside y d S k → Outside y d' S' k

-- none yet
pub moves_none : (y : Layout) (d : List ℕ) (S : ℕ → Option Allocation) (i : ℕ) → Family y d S → Moves y d d S S i
moves_none y d S i f = record {
  long = refl;
  family = f;
  others = λ _ _. refl;
  clusters = λ _ _ _ _. refl;
  bytes = λ _ _ _ _. refl;
  outside = λ _ l. l;
}

module _ (y : Layout) (d d₁ d₂ : List ℕ) (S S₁ : ℕ → Option Allocation) (i : ℕ) (w : Moves y d d₁ S S₁ i) where
  -- one more, of any key but those of other slots
  then_moved : (k : ℕ) (o : Option Allocation) → ((j : ℕ) → j ≢ i → suc j ≢ k) → Moved y d₁ d₂ S₁ k o → Moves y d d₂ S (upd S₁ k o) i
  then_moved k o h v = record {
    long = v.long ∙ w.long;
    family = v.family;
    others = λ j n. upd_other S₁ k o (suc j) (h j n) ∙ w.others j n;
    clusters = λ j a n e. v.streams (suc j) a (h j n) (w.others j n ∙ e) ∙ w.clusters j a n e;
    bytes = λ j a n e. v.bytes (suc j) a (h j n) (w.others j n ∙ e) ∙ w.bytes j a n e;
    outside = λ x l. v.outside x (w.outside x l);
  }

  -- of the root
  pub moves_root : (o : Option Allocation) → Moved y d₁ d₂ S₁ 0 o → Moves y d d₂ S (upd S₁ 0 o) i
  moves_root o = then_moved 0 o (λ j n e. omega arith)

  -- of the slot's stream
  pub moves_file : (o : Option Allocation) → Moved y d₁ d₂ S₁ (suc i) o → Moves y d d₂ S (upd S₁ (suc i) o) i
  moves_file o = then_moved (suc i) o (λ j n e. n (omega arith))

-- a root that did not grow
pub no_zeros : (bs : List ℕ) (size : ℕ) → with_zeros bs (0 * size) ≡ bs
no_zeros bs size = let e : 0 * size ≡ 0 = omega arith in ap (with_zeros bs) e ∙ zeros_none bs

pub take_whole : (ks : List ℕ) → take (length ks) ks ≡ ks
take_whole ks = take_all (length ks) ks (omega arith)

-- the change that they make, once the root's table of sets is known
pub change_of : (g : Geometry) (m d d' : List ℕ) (more i : ℕ) (o : Option (List ℕ)) (after : Allocation) (S' : ℕ → Option Allocation)
    → Moves (lay g d) d d' (members g d) S' i
    → root_record (lay g d) d' (root_cluster g) ≡ after
    → S' 0 ≡ some after
    → Ordered (lay g d).count (lay g d).size (bytes_in (lay g d) d' after)
    → ((j : ℕ) → sets (bytes_in (lay g d) d' after) j ≡ upd (sets (root_bytes g d)) i o j)
    → bytes_in (lay g d) d' after ≡ splice (with_zeros (root_bytes g d) (more * (lay g d).size)) (32 * i) (entries_put (set_of g d i) o)
    → take (length (root_clusters g d)) (clusters_in (lay g d) d' after) ≡ root_clusters g d
    → ((s : List ℕ) → o ≡ some s → S' (suc i) ≡ some (file_record (lay g d) d' s))
    → ((s : List ℕ) → o ≡ some s → (k : ℕ) → Mem k (clusters_in (lay g d) d' (file_record (lay g d) d' s)) → in_map m k ≡ false)
    → marked_count (lay g d) d' + (takes (lay g d) (sets (root_bytes g d) i) + length (root_clusters g d))
    ≡ marked_count (lay g d) d + (takes (lay g d) o + length (clusters_in (lay g d) d' after))
    → Change g m d d' more i o
change_of g m d d' more i o after S' w r z in_order t bytes kept own off q = record {
  long = w.long;
  after = after;
  root_is = r;
  ordered = in_order;
  table = t;
  root_bytes_are = bytes;
  root_clusters_are = kept;
  S' = S';
  family = w.family;
  root_member = z;
  own_member = own;
  other_member = λ j s n e. w.others j n ∙ member-file g d j s e;
  others_read = λ j s n e. w.clusters j (file_record (lay g d) d s) n (member-file g d j s e);
  others_bytes = λ j s n e. w.bytes j (file_record (lay g d) d s) n (member-file g d j s e);
  own_off_map = off;
  outside = w.outside;
  marks = q;
}
