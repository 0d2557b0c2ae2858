mod HeadFound
mod Instants
mod ServedInputs
mod Serving
