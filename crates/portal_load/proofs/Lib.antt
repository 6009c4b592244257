mod Calling
mod Fetched
mod Inserting
mod Loading
mod Passing
