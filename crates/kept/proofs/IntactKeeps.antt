-- Each store keeps every cluster but its own. Assumes nothing.
use mathlib.Core.Path.{◌≡◌, refl, sym, ◌∙◌, subst}
use mathlib.Core.Logic.{◌≢◌}
use mathlib.Core.Bool.{true}
use mathlib.Core.List.{List}
use Prim.Native.Nat.{ℕ}
use Rattle.boot.specs.declared.layout.Layout.{Layout}
use Rattle.boot.specs.Layout.{in_heap}
use Rattle.boot.proofs.Apart.{in_heap_lem}
use Rattle.metadata.specs.Marks.{set_mark}
use Rattle.metadata.specs.Cluster.{put_bytes}
use Rattle.kept.specs.Copies.{fat0_at, fat1_at}
use Rattle.kept.specs.Kept.{Intact}
use Rattle.metadata.proofs.Frame.{mark_fat, cluster_fat, mark_mark_other, cluster_mark, mark_bytes, bytes_other}
use Rattle.metadata.proofs.View.{plain_heap, plain_off}
use Rattle.metadata.proofs.Keeps.{Keeps}
use Rattle.kept.proofs.RegionLaws.{mark_below, put_below, entries_below, entries_other}

pub intact_same : (y : Layout) (d : List ℕ) (k : ℕ) → Intact y d d k
intact_same y d k = record { entry0 = refl; entry1 = λ _. refl; mark = refl; bytes = λ _ _ _. refl }

pub intact_again : (y : Layout) (d e f : List ℕ) (k : ℕ) → Intact y d e k → Intact y e f k → Intact y d f k
intact_again y d e f k v u = record {
  entry0 = u.entry0 ∙ v.entry0;
  entry1 = λ t. u.entry1 t ∙ v.entry1 t;
  mark = u.mark ∙ v.mark;
  bytes = λ o r b. u.bytes o r b ∙ v.bytes o r b;
}

-- clusters that are not stored to
abbrev pub OthersIntact : Layout → (ℕ → Type 0) → List ℕ → List ℕ → Type 0
OthersIntact y P d e = (j : ℕ) → in_heap y.count j ≡ true → (P j → ⊥) → Intact y d e j

pub intact_keeps : (y : Layout) (P : ℕ → Type 0) → Keeps y P (OthersIntact y P)
unfolding fat0_at fat1_at
intact_keeps y P = record {
  same = λ d j _ _. intact_same y d j;
  again = λ d e f u v j h o. intact_again y d e f j (u j h o) (v j h o);
  fat = λ d w k v own j h o.
      let r = entries_other y d w k v j own.0 h (apart k j own.1 o) in
      let i = (in_heap_lem y.count k own.0).1 in
      record { entry0 = r.0; entry1 = r.1; mark = mark_fat y d w k v j i; bytes = λ _ x _. cluster_fat y d w k v j x i };
  mark = λ d w k on own j h o.
      let r = entries_below y d w (set_mark y d k on) (mark_below y d w k on) j h in
      record {
        entry0 = r.0;
        entry1 = λ _. r.1;
        mark = mark_mark_other y d w k on j own.0 h (apart k j own.1 o);
        bytes = λ off x b. cluster_mark y d w k on j x own.0 h off b;
      };
  put = λ d w k i bs p q f j h o.
      let g = plain_heap y k p in
      let r = entries_below y d w (put_bytes y d k i bs) (λ x. put_below y d w k i bs x g f) j h in
      record {
        entry0 = r.0;
        entry1 = λ _. r.1;
        mark = mark_bytes y d w k i bs j g (plain_off y k p) f h;
        bytes = λ _ x b. bytes_other y d w k i bs j x g h (apart k j q o) f b;
      };
}
  where
    apart : (k j : ℕ) → P k → (P j → ⊥) → j ≢ k
    apart k j p o e = o (subst P (sym e) p)
