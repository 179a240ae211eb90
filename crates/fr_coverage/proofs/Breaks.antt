-- Double cycles in which frames are carried.
use Rattle.std.proofs.Common.{◌≡◌, ℕ, ◌+◌, ◌*◌, ◌<◌, ◌≤◌, ◌/◌, Bool, true, false, Option, Some, None, ap, sym, ◌∙◌, refl, arith, ◌⊎◌, inl, inr, subst}
use Rattle.std.specs.Prelude.{◌&&◌, ◌||◌}
use Rattle.std.proofs.lemmas.Bool.{cases_eq}
use Rattle.fr_base.specs.declared.channel.Channel.{Channel}
use Rattle.fr_base.specs.declared.channel.Channel.TheVariants as channel
use Rattle.fr_cluster.specs.declared.nodes.NodeSpec.{NodeSpec}
use Rattle.fr_script.specs.View.{ScriptView, is_arbitrary, deed_of}
use Rattle.fr_script.specs.Events.{event_of, event_by}
use Rattle.fr_coverage.specs.Links.{shares, is_regular, is_free, is_carried_on, is_carried, link_gap}
use Rattle.fr_coverage.specs.declared.gap.Gap.TheVariants as gap
use Rattle.fr_script.specs.declared.deed.Deed.{Deed}

pub broken : (s : ScriptView) (a b : NodeSpec) (double : ℕ) → is_carried s a b double ≡ false → link_gap s a b double ≡ Some (gap.Link a.id b.id double)
broken s a b double h = rw h refl

whole : (s : ScriptView) (a b : NodeSpec) (double : ℕ) → is_carried s a b double ≡ true → link_gap s a b double ≡ None
whole s a b double h = rw h refl

-- where nothing is done to the frames of a correct sender they are regular
free-quiet : (s : ScriptView) (i j cycle : ℕ) (ch : Channel) → is_arbitrary s i ≡ false → deed_of s cycle i j ch ≡ None → is_free s i j ch cycle ≡ true
unfolding event_of
free-quiet s i j cycle ch correct quiet = ap (λ (b : Bool). is_regular (event_by b (deed_of s cycle i j ch))) correct ∙ ap (λ (o : Option Deed). is_regular (event_by false o)) quiet

shares-of : (a b c : Bool) → (a && b && c) ≡ true → a ≡ true
shares-of true b c h = refl
shares-of false b c h = h

all-true : (a b c : Bool) → a ≡ true → b ≡ true → c ≡ true → (a && b && c) ≡ true
all-true a b c e f g = rw (e, f, g) refl

either : (a b : Bool) → (a || b) ≡ true → (a ≡ true) ⊎ (b ≡ true)
either true b h = inl refl
either false b h = inr h

or-left : (a b : Bool) → a ≡ true → (a || b) ≡ true
or-left a b e = rw e refl

or-right : (a b : Bool) → b ≡ true → (a || b) ≡ true
or-right true b e = refl
or-right false b e = e

carried-on : (s : ScriptView) (a b : NodeSpec) (double other : ℕ) (ch : Channel) → is_arbitrary s a.id ≡ false → is_carried_on s a b double ch ≡ true
    → deed_of s (2 * other) a.id b.id ch ≡ None → deed_of s (2 * other + 1) a.id b.id ch ≡ None → is_carried_on s a b other ch ≡ true
carried-on s a b double other ch correct h even odd =
    all-true (shares a b ch) (is_free s a.id b.id ch (2 * other)) (is_free s a.id b.id ch (2 * other + 1))
    (shares-of (shares a b ch) (is_free s a.id b.id ch (2 * double)) (is_free s a.id b.id ch (2 * double + 1)) h)
    (free-quiet s a.id b.id (2 * other) ch correct even)
    (free-quiet s a.id b.id (2 * other + 1) ch correct odd)

carried : (s : ScriptView) (a b : NodeSpec) (double other : ℕ) → is_arbitrary s a.id ≡ false → is_carried s a b double ≡ true
    → ((ch : Channel) → deed_of s (2 * other) a.id b.id ch ≡ None) → ((ch : Channel) → deed_of s (2 * other + 1) a.id b.id ch ≡ None) → is_carried s a b other ≡ true
carried s a b double other correct h even odd = by (either (is_carried_on s a b double channel.A) (is_carried_on s a b double channel.B) h)
  where
    by : (is_carried_on s a b double channel.A ≡ true) ⊎ (is_carried_on s a b double channel.B ≡ true) → is_carried s a b other ≡ true
    by (inl e) = or-left _ _ (carried-on s a b double other channel.A correct e (even channel.A) (odd channel.A))
    by (inr e) = or-right (is_carried_on s a b other channel.A) _ (carried-on s a b double other channel.B correct e (even channel.B) (odd channel.B))

-- after a double cycle in which frames are carried they are up to the next deed
pub unbroken : (s : ScriptView) (a b : NodeSpec) (double next : ℕ) → is_arbitrary s a.id ≡ false → is_carried s a b double ≡ true
    → ((c : ℕ) (ch : Channel) → 2 * double + 2 ≤ c → c < next → deed_of s c a.id b.id ch ≡ None)
    → (k : ℕ) → double ≤ k → k < next / 2 → link_gap s a b k ≡ None
unbroken s a b double next correct h quiet k from to = by (cases_eq k double)
  where
    by : (k ≡ double) ⊎ (k ≡ double → ⊥) → link_gap s a b k ≡ None
    by (inl same) = let P : ℕ → Type 0 = λ n. link_gap s a b n ≡ None in subst P (sym same) (whole s a b double h)
    by (inr ne) =
        whole s a b k
        (carried s a b double k correct h
        (λ ch. quiet (2 * k) ch (omega arith) (omega arith))
        (λ ch. quiet (2 * k + 1) ch (omega arith) (omega arith)))
