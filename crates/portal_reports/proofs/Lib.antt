mod CountLemmas
mod Examples
mod SeenLemmas
mod TotalLemmas
