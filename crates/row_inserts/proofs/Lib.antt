mod CutLemmas
mod InsertsLemmas
mod PieceLemmas
mod RemainingLemmas
mod SizeLemmas
