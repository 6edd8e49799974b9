-- Sessions: nodes that are called by names.
use Rattle.std.specs.Prelude.{ℕ, ◌≡◌, ◌<◌, ◌⊎◌, List, [], ◌∷◌, ◌++◌, length, slice_index_or}
use Rattle.std.specs.Prelude.{slice_set, string_bytes}
use Rattle.std.specs.List.{All}
use Rattle.std.specs.declared.cmp.Ordering.{Ordering}
use Rattle.p2p_directory.specs.declared.node.setup.Setup.{Setup}
use Rattle.p2p_directory.specs.Network.{IsAdded, ReplacesAt}
use Rattle.p2p_directory.specs.Nodes.{NodeView}
use Rattle.play.specs.declared.label.Label.{Label}

-- what contracts see of a session: what the nodes are called, and the nodes
pub record SessionView (C S : Type 0) : Type 0 where
  pub labels : List Label
  pub nodes : List (NodeView C S)

-- A NEW NODE of a name and a setup: s before it, s2 after it

-- the label has the name, and the namespace of the setup
pub record IsCalled {C S : Type 0} (name : List ℕ) (given : Setup C S) (label : Label) :
    Type 0 where
  pub name_is : string_bytes label.name ≡ name
  pub namespace_is : label.namespace.items ≡ given.namespace.items

module _ {C S : Type 0} (cmp : C → C → Ordering) (name : List ℕ) (given : Setup C S) where
  -- a node has the name, and the new one stands in its place
  pub record Replaces (s s2 : SessionView C S) : Type 0 where
    pub i : ℕ
    pub there : i < length s.labels
    pub called : (l : Label) → string_bytes (slice_index_or s.labels i l).name ≡ name
    pub label : Label
    pub is_called : IsCalled name given label
    pub labels : s2.labels ≡ slice_set s.labels i label
    pub nodes : ReplacesAt cmp given i s.nodes s2.nodes

  -- no node has the name, and the new one stands behind all others
  pub record Joins (s s2 : SessionView C S) : Type 0 where
    pub none : All (λ l. ¬ (string_bytes l.name ≡ name)) s.labels
    pub label : Label
    pub is_called : IsCalled name given label
    pub labels : s2.labels ≡ s.labels ++ label ∷ []
    pub nodes : IsAdded cmp given s.nodes s2.nodes

  abbrev pub IsPut : SessionView C S → SessionView C S → Type 0
  IsPut s s2 = Replaces s s2 ⊎ Joins s s2
