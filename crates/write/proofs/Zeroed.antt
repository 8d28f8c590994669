-- A member of a family, as a directory, grown by zeroed clusters. Assumes nothing.
use mathlib.Core.Path.{◌≡◌, sym, ◌∙◌, ap, subst}
use mathlib.Core.Logic.{◌≢◌, ⊎_elim}
use mathlib.Core.Bool.{true, false≢true}
use mathlib.Core.List.{List, ◌++◌}
use mathlib.Core.Option.{Option, some}
use Prim.Native.Nat.{ℕ, ◌+◌, ◌*◌, ◌≤◌}
use native.Mathlib.Omega.{arith}
use lib.ListN.{length, take}
use lib.Seq.{take-append_seam}
use Rattle.tables.specs.Lists.{Mem, every}
use Rattle.tables.specs.Count.{count}
use Rattle.tables.proofs.ListLaws.{mem_append, every_mem, mem_every}
use Rattle.boot.specs.declared.layout.Layout.{Layout}
use Rattle.boot.specs.Layout.{in_heap}
use Rattle.metadata.specs.Fat.{fat_entry}
use Rattle.metadata.specs.Marks.{marked}
use Rattle.metadata.specs.Usable.{is_usable}
use Rattle.metadata.proofs.Frame.{Fits, small}
use Rattle.metadata.proofs.View.{plain}
use Rattle.metadata.proofs.Counting.{marked_count}
use Rattle.stream.specs.declared.allocation.Allocation.{Allocation}
use Rattle.stream.specs.Chain.{listed}
use Rattle.stream.specs.Stream.{stream_of, clusters_in}
use Rattle.stream.proofs.Distinct.{stream_frame}
use Rattle.stream.specs.Bytes.{bytes_in}
use Rattle.directory.specs.Room.{with_zeros}
use Rattle.directory.proofs.DirectoryLaws.{clusters_heap, clusters_length}
use Rattle.write_dir.specs.Place.{GrownDirectory, grow_by}
use Rattle.write_dir.proofs.AddedLaws.{Zeroed, zeroed_clusters, zeroed_count, grow_many}
use Rattle.write_dir.proofs.GrownLaws.{zeroed_off, zeroed_bytes, zeroed_in, Led, grow_led}
use Rattle.write.proofs.Reading.{number_of_lem, reads_as}
use Rattle.write.proofs.Family.{Family, Outside, Moved, moved}
use Rattle.write.proofs.Resized.{Mapped}

-- w is member i with n zeroed clusters more
pub record Wider (y : Layout) (d : List ℕ) (S : ℕ → Option Allocation) (i : ℕ) (a : Allocation) (n : ℕ) (w : GrownDirectory) : Type 0 where
  pub moved : Moved y d w.volume S i (some w.directory)
  pub bytes : bytes_in y w.volume w.directory ≡ with_zeros (bytes_in y d a) (n * y.size)
  pub kept : take (length (clusters_in y d a)) (clusters_in y w.volume w.directory) ≡ clusters_in y d a
  pub marks : marked_count y w.volume ≡ marked_count y d + n
  pub counts : w.directory.count ≡ a.count + n
  pub led : Led a w.directory

module _ (y : Layout) (m : List ℕ) (mapped : Mapped y m) (i n : ℕ) (g : GrownDirectory) (w : Fits y g.volume) (S : ℕ → Option Allocation)
    (f : Family y g.volume S) (s : S i ≡ some g.directory) (nonempty : g.directory.count ≢ 0) (hint_in : in_heap y.count g.hint ≡ true)
    (enough : n ≤ count (is_usable y g.volume m) 2 y.count) where
  abbrev d : List ℕ
  d = g.volume

  abbrev a : Allocation
  a = g.directory

  abbrev old : List ℕ
  old = clusters_in y g.volume g.directory

  -- grown
  abbrev v : GrownDirectory
  v = grow_by y m n g

  abbrev d' : List ℕ
  d' = (grow_by y m n g).volume

  own : stream_of y d a ≡ listed old
  own = reads_as y d a (f.reads i a s)

  grown : (new : List ℕ) × (length new ≡ n) × Zeroed y d m v old new
  grown = grow_many y m mapped n g w old own hint_in enough

  abbrev new : List ℕ
  new = grown.0

  z : Zeroed y d m v old new
  z = grown.2

  clusters : clusters_in y d' v.directory ≡ old ++ new
  clusters = zeroed_clusters y d m v old new z

  -- no member has a new cluster
  off : (j : ℕ) (b : Allocation) → S j ≡ some b → (k : ℕ) → Mem k (clusters_in y d b) → Mem k new → ⊥
  off j b t = zeroed_off y d m v old new w z b (clusters_in y d b) (reads_as y d b (f.reads j b t))

  off_marked : (k : ℕ) → Outside y d S k → Mem k new → ⊥
  off_marked k l q = false≢true (sym (z.unmarked k q) ∙ l.mark)

  other : (j : ℕ) (b : Allocation) → j ≢ i → S j ≡ some b → stream_of y d' b ≡ stream_of y d b
  unfolding stream_of
  other j b r t =
      stream_frame y.count (fat_entry y d) (fat_entry y d') (marked y d) (marked y d') b (clusters_in y d b) (small y d w)
      (λ k p. z.fat_kept k (heap k p) (λ q. f.apart j i b a r t s k p q) (off j b t k p)) (λ k p. z.marks_kept k (heap k p) (off j b t k p)) e
      ∙ sym e
    where
      e : stream_of y d b ≡ listed (clusters_in y d b)
      e = reads_as y d b (f.reads j b t)

      heap : (k : ℕ) → Mem k (clusters_in y d b) → in_heap y.count k ≡ true
      heap k p = every_mem (in_heap y.count) (clusters_in y d b) (clusters_heap y d b (f.reads j b t)) k p

  all_plain : every (plain y) (old ++ new) ≡ true
  all_plain =
      mem_every (plain y) (old ++ new)
      (λ k q. ⊎_elim (every_mem (plain y) old (f.plains i a s) k) (every_mem (plain y) new z.plains k) (mem_append old q))

  pub grow_member : Wider y g.volume S i g.directory n (grow_by y m n g)
  grow_member = record {
    moved = moved y d d' S i f z.long other
        (λ j b r t. zeroed_bytes y d m v old new w z b (clusters_in y d b) (reads_as y d b (f.reads j b t)) (f.plains j b t))
        (λ k l. z.marks_kept k l.heap (off_marked k l))
        v.directory (number_of_lem y d' v.directory (old ++ new) z.reads) (ap (every (plain y)) clusters ∙ all_plain)
        (λ j b r t k p q. ⊎_elim (λ u. f.apart i j a b (λ x. r (sym x)) s t k u q) (off j b t k q) (mem_append old (subst (Mem k) clusters p)))
        (λ k l p. ⊎_elim (l.off i a s) (off_marked k l) (mem_append old (subst (Mem k) clusters p)));
    bytes = zeroed_in y d m v old new w z a own (f.plains i a s) ∙ ap (λ (x : ℕ). with_zeros (bytes_in y d a) (x * y.size)) grown.1;
    kept = ap (take (length old)) clusters ∙ take-append_seam old new;
    marks = omega (arith, z.counts, grown.1);
    counts = omega (arith, zeroed_count y d m v old new z, clusters_length y d a (f.reads i a s), grown.1);
    led = grow_led y m mapped n g w old own hint_in enough (omega arith);
  }
