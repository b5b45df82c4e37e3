-- Statement: the tree of LMS (RFC 8554, section 5): its nodes, the path of a leaf, and the node that a path
-- leads to, as functions on numbers and lists of bytes. A tree of height h has the nodes 1, the root,
-- to 2^(h+1) - 1; node 2^h + q is over leaf q.
use Rattle.std.specs.Prelude.{ℕ, zero, suc, ◌+◌, ◌-◌, ◌*◌, ◌/◌, ◌%◌, ◌^◌, nat_le, ◌==◌, List, ◌++◌, if◌then◌else◌}
use Rattle.lms_ots.specs.Ots.{public_value, tagged_hash}

-- H (I || u32str (r) || u16str (D_LEAF) || K): a node over a leaf's public value (5.3)
abbrev pub leaf_node : List ℕ → ℕ → List ℕ → List ℕ
leaf_node id r value = tagged_hash id r 0x8282 value

-- H (I || u32str (r) || u16str (D_INTR) || T[2r] || T[2r+1]): a node over two nodes (5.3)
abbrev pub inner_node : List ℕ → ℕ → List ℕ → List ℕ → List ℕ
inner_node id r left right = tagged_hash id r 0x8383 (left ++ right)

-- node r, where the leaves are reached within as many levels
unfoldable pub node_within : ℕ → ℕ → List ℕ → List ℕ → ℕ → List ℕ
node_within zero height id secret r = leaf_node id r (public_value id (r - 2 ^ height) secret)
node_within (suc levels) height id secret r =
    if nat_le (2 ^ height) r
    then leaf_node id r (public_value id (r - 2 ^ height) secret)
    else inner_node id r (node_within levels height id secret (2 * r)) (node_within levels height id secret (2 * r + 1))

-- T[r] (5.3): a leaf's node at r of 2^h or more, else the node over T[2r] and T[2r+1]
unfoldable pub tree_node : ℕ → List ℕ → List ℕ → ℕ → List ℕ
tree_node height id secret r = node_within height height id secret r

-- the other node under one parent: r xor 1
abbrev pub sibling : ℕ → ℕ
sibling r = r + 1 - 2 * (r % 2)

-- path[i] of the leaf whose node is r: the sibling of the node i levels above it (5.4.1)
abbrev pub path_node : ℕ → List ℕ → List ℕ → ℕ → ℕ → List ℕ
path_node height id secret r i = tree_node height id secret (sibling (r / 2 ^ i))

-- the node above node r, from that node's value and its sibling's (5.4.2, step 4)
abbrev pub parent : List ℕ → ℕ → List ℕ → List ℕ → List ℕ
parent id r value sibling_node =
    if r % 2 == 0 then inner_node id (r / 2) value sibling_node else inner_node id (r / 2) sibling_node value

-- the node i levels above node r, from node r's value and the first i nodes of a path (5.4.2, step 4)
unfoldable pub root_from_path : List ℕ → ℕ → List ℕ → (ℕ → List ℕ) → ℕ → List ℕ
root_from_path id r value path zero = value
root_from_path id r value path (suc i) = parent id (r / 2 ^ i) (root_from_path id r value path i) (path i)
