-- Half an answer is none.
use Rattle.std.proofs.Common.{◌≡◌, List, [], ◌∷◌, ◌++◌, length, None, ap, subst, ◌∙◌, arith}
use Rattle.pgn_base.specs.declared.answers.Tag.TheVariants as tag
use Rattle.pgn_model.specs.declared.item.Item.{Item}
use Rattle.pgn_model.specs.declared.item.Item.TheVariants.{Enlist, Reply}
use Rattle.pgn_examples.specs.Queries.{listen_line}
use Rattle.pgn_examples.specs.Messages.{conversation}
use Rattle.pgn_messages.specs.Messages.{messages}
use Rattle.pgn_wire.specs.Serving.{BeginsByLine}
use Rattle.pgn_part_examples.specs.Wire.{half_answer, listens}

-- wherever the items are split before a line, what stands written is none of it or all
pub no-half : (front behind : List Item) → listens ≡ front ++ behind → BeginsByLine behind → half_answer ≡ messages (conversation (listen_line ∷ [])) front → ⊥
no-half [] behind e line are = let size : 12 ≡ 0 = ap length are in omega (arith, size)
no-half (a ∷ []) behind e line are = let same : behind ≡ Enlist 3 3 ∷ Reply tag.Listen None ∷ [] = cc in subst BeginsByLine same line
no-half (a ∷ b ∷ []) behind e line are = let same : behind ≡ Reply tag.Listen None ∷ [] = cc in subst BeginsByLine same line
no-half (a ∷ b ∷ c ∷ []) behind e line are =
    let all : a ∷ b ∷ c ∷ [] ≡ listens = cc in
    let size : 12 ≡ 18 = ap length (are ∙ ap (messages (conversation (listen_line ∷ []))) all) in
    omega (arith, size)
no-half (a ∷ b ∷ c ∷ d ∷ front) behind e line are = absurd (cc)
