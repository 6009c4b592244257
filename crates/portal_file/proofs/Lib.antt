mod FileLemmas
mod KeyedLemmas
mod OpeningLemmas
mod PairLemmas
mod TableLemmas
