-- Bytes stored in a list of clusters keep what each store keeps, and every stream as it reads. Assumes nothing.
use mathlib.Core.Path.{◌≡◌, sym, ◌∙◌, ap}
use mathlib.Core.Bool.{true}
use mathlib.Core.List.{List}
use Prim.Native.Nat.{ℕ}
use native.Mathlib.Omega.{arith}
use Rattle.tables.specs.Lists.{Mem, every}
use Rattle.tables.proofs.ListLaws.{every_mem}
use Rattle.boot.specs.declared.layout.Layout.{Layout}
use Rattle.boot.specs.Layout.{in_heap}
use Rattle.boot.proofs.Apart.{in_heap_lem}
use Rattle.metadata.specs.Fat.{fat_entry}
use Rattle.metadata.specs.Marks.{marked}
use Rattle.metadata.proofs.Frame.{Fits}
use Rattle.metadata.proofs.View.{plain}
use Rattle.metadata.proofs.Keeps.{Keeps, Went, put_on}
use Rattle.stream.specs.declared.allocation.Allocation.{Allocation}
use Rattle.stream.specs.Chain.{listed}
use Rattle.stream.specs.Stream.{number_of, stream_of, clusters_of}
use Rattle.stream.specs.Bytes.{store_at}
use Rattle.stream.proofs.ChainLaws.{stream_listed}
use Rattle.stream.proofs.ListingLaws.{stream_read}
use Rattle.stream.proofs.Distinct.{stream_frame}
use Rattle.stream.proofs.BytesLaws.{store_keeps, fat_store, mark_store, plain_in_heap}

pub store_on : (y : Layout) (P : ℕ → Type 0) (K : List ℕ → List ℕ → Type 0) → Keeps y P K → (d e : List ℕ) → Went y K d e → (ks : List ℕ)
    → every (plain y) ks ≡ true → ((k : ℕ) → Mem k ks → P k) → (at : ℕ) (bs : List ℕ) → Went y K d (store_at y e ks at bs)
store_on y P K s d e w ks p o at bs =
    store_keeps y (Went y K d) ks (plain_in_heap y ks p) (λ l k j x v i h r u. put_on y P K s d l u k j x (every_mem (plain y) ks p k i) (o k i) r) e at bs w.fits w

-- a stream that reads, reads as before
pub stream_store : (y : Layout) (d : List ℕ) → Fits y d → (ks : List ℕ) → every (plain y) ks ≡ true → (at : ℕ) (bs : List ℕ) (a : Allocation)
    → number_of (stream_of y d a) ≡ 0 → stream_of y (store_at y d ks at bs) a ≡ stream_of y d a
unfolding stream_of
stream_store y d w ks p at bs a e =
    stream_frame y.count (fat_entry y d) (fat_entry y e₁) (marked y d) (marked y e₁) a js (let l = w.laid in omega (arith, l.count_high))
    (λ k i. fat_store y d w ks heap at bs k (in_heap_lem y.count k (inside k i)).1) (λ k i. mark_store y d w ks heap at bs p k (inside k i)) is
    ∙ sym is
  where
    e₁ : List ℕ
    e₁ = store_at y d ks at bs

    js : List ℕ
    js = clusters_of (stream_of y d a)

    heap : every (in_heap y.count) ks ≡ true
    heap = plain_in_heap y ks p

    inside : (k : ℕ) → Mem k js → in_heap y.count k ≡ true
    inside k i = every_mem (in_heap y.count) js (stream_read y d a e).heap k i

    is : stream_of y d a ≡ listed js
    is = unfold stream_of in (let q = stream_listed y.count (fat_entry y d) (marked y d) a (unfold stream_of in e) in q.1 ∙ ap listed (sym (ap clusters_of q.1)))
